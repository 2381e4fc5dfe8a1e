-- What taking a block back needs of a state.
use Rattle.std.proofs.Common.{◌≡◌, ◌⊎◌, ⊎_elim, ℕ, ◌+◌, ◌<◌, true, length, Option, Some, None, sym, ◌∙◌, ap, subst, arith}
use Rattle.std.specs.Prelude.{IfSome}
use Rattle.hm_model.specs.declared.entry.Choices.{Choices}
use Rattle.hm_sizes.specs.declared.shape.Shape.{Shape}
use Rattle.hm_sizes.specs.Shapes.{IsShape, slab_of}
use Rattle.hm_class_rules.specs.State.{State, is_open, is_live, is_empty, empty_slabs}
use Rattle.hm_class_rules.specs.Steps.{takes_back, releases}
use Rattle.hm_class_rules.specs.Rules.{Terms, Releases, surplus, Empties}
use Rattle.hm_class_rules.specs.Laws.{IsSound}
use Rattle.hm_class_rules.proofs.Sound.{has_times, sound_takes_back, sound_releases}
use Rattle.hm_class_rules.proofs.Legal.{surplus_empty, empty_open}
use Rattle.hm_class_rules.proofs.Emptied.{one_more_empty}
use Rattle.hm_class_book.specs.Book.{IsKept}

pub open_below : (p : Shape) (s : State) (n : ℕ) → IsSound p s → is_open s n ≡ true → n < p.limit
open_below p s n sound on = sound.below_limit n (omega (arith, has_times n s.opens on))

pub counted : (p : Shape) (s : State) (a : ℕ) (o : Option ℕ) (others : ℕ) → IsKept p s → is_live s a ≡ true → Releases p (takes_back p a s) o → others ≡ length (empty_slabs p s)
    → IfSome o (λ b. is_empty p (releases o (takes_back p a s)) (slab_of p b) ≡ true → length (empty_slabs p (releases o (takes_back p a s))) ≡ others + 1)
counted p s a None others kept live rel is = tt
counted p s a (Some b) others kept live rel is = λ e. one_more_empty p s a b kept.shape kept.sound live rel e ∙ ap (λ (n : ℕ). n + 1) (sym is)

none_below : (limit : ℕ) (o : Option ℕ) → o ≡ None → IfSome o (λ n. n < limit)
none_below limit o e = subst (λ (x : Option ℕ). IfSome x (λ n. n < limit)) (sym e) tt

pub purged_below : (t : Terms) (s : State) (before now : ℕ) (c : Choices) (released found : Option ℕ) → IsShape t.shape → IsSound t.shape s → surplus t.shape s released ≡ found → Empties t s before now c found
    → IfSome c.purged (λ n. n < t.shape.limit)
purged_below t s before now c released None shape sound is h = none_below t.shape.limit c.purged h.1
purged_below t s before now c released (Some m) shape sound is h =
    ⊎_elim
    (λ k. none_below t.shape.limit c.purged k.1)
    (λ k. subst (λ (x : Option ℕ). IfSome x (λ n. n < t.shape.limit)) (sym k.1)
    (open_below t.shape s m sound (empty_open t.shape s m shape (surplus_empty t.shape s released m is))))
    h

pub freed_sound : (p : Shape) (s : State) (a : ℕ) (o : Option ℕ) → IsSound p s → is_live s a ≡ true → IsSound p (releases o (takes_back p a s))
freed_sound p s a o sound live = sound_releases p (takes_back p a s) o (sound_takes_back p s a sound live)
