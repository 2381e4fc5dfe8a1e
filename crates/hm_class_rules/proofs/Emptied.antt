-- A release that empties a slab makes one empty slab more.
use Rattle.std.proofs.Common.{◌≡◌, ◌≢◌, ⊎_elim, ℕ, ◌≤◌, Bool, true, false, cond, not, ◌&&◌, ◌∷◌, Some, sym, ◌∙◌, ap, subst, refl, arith}
use Rattle.std.proofs.lemmas.Bool.{cases_eq}
use Rattle.hm_model.specs.Maps.{among, times}
use Rattle.hm_model.proofs.Lists.{times_among, times_here, times_apart}
use Rattle.hm_sizes.specs.declared.shape.Shape.{Shape}
use Rattle.hm_sizes.specs.Shapes.{IsShape, IsPlaceOf, place, slab_of}
use Rattle.hm_class_rules.specs.State.{State, is_open, is_live, is_taken, is_free, is_empty, empty_slabs}
use Rattle.hm_class_rules.specs.Steps.{takes_back, releases}
use Rattle.hm_class_rules.specs.Laws.{uses, IsSound, OneMoreEmpty}
use Rattle.hm_class_rules.proofs.Sound.{has_times, empty_uses, sound_takes_back, sound_releases}
use Rattle.std.proofs.lemmas.Option.{none-some, same_Some}
use Rattle.hm_class_rules.proofs.Changes.{slab_of_place, apart, all_alike, open_write, open_releases, freed_taken}
use Rattle.hm_class_rules.proofs.Listed.{equally_long, empty_slab_times}

-- other slabs stay empty or not
same_empty : (p : Shape) (s : State) (a b n : ℕ) → IsShape p → is_live s a ≡ true → n ≢ slab_of p b → is_empty p (releases (Some b) (takes_back p a s)) n ≡ is_empty p s n
same_empty p s a b n shape live ne = all_alike (is_free p s₂ n) (is_free p s n) 0 p.slots (λ i ge lt.
    ap (λ (c : Bool). c && not (is_taken s₂ (place p n i))) (open_releases (Some b) (takes_back p a s) n ∙ open_write p a _ s n)
    ∙ ap (λ (c : Bool). is_open s n && not c) (freed_taken p s a (place p n i) (Some b) live (λ none. absurd (none-some b (sym none))) (λ x is. subst (λ (y : ℕ). y ≢ place p n i) (same_Some b x is) (apart p shape n i b (omega arith) ne))))
  where
    s₂ : State
    s₂ = releases (Some b) (takes_back p a s)

-- what is released was taken before
was_used : (p : Shape) (s : State) (a b : ℕ) → is_live s a ≡ true → among b (a ∷ s.quarantined) ≡ true → 1 ≤ uses s b
was_used p s a b live is =
    ⊎_elim
    (λ e. subst (λ (x : ℕ). 1 ≤ uses s x) e (omega (arith, has_times a s.live live)))
    (λ ne. omega (arith, times_among b (a ∷ s.quarantined) is, times_apart b a s.quarantined ne))
    (cases_eq a b)

-- so its slab was not empty
was_not_empty : (p : Shape) (s : State) (b : ℕ) → IsShape p → IsSound p s → 1 ≤ uses s b → is_empty p s (slab_of p b) ≡ false
was_not_empty p s b shape sound used =
    let stands = sound.placed b used in
    let slab_is : slab_of p b ≡ stands.slab = ap (slab_of p) stands.is_place.is ∙ slab_of_place p shape stands.slab stands.slot stands.is_place.slot in
    elim (is_empty p s (slab_of p b)) as (λ c. is_empty p s (slab_of p b) ≡ c → c ≡ false) [
      | true ↦ λ e. absurd (omega (arith, used, empty_uses p s (slab_of p b) b e stands.slot (subst (λ (n : ℕ). IsPlaceOf p b n stands.slot) (sym slab_is) stands.is_place)))
      | false ↦ λ e. refl
    ] refl

pub one_more_empty : OneMoreEmpty
one_more_empty p s a b shape sound live release emptied =
    let s₂ : State = releases (Some b) (takes_back p a s) in
    let m : ℕ = slab_of p b in
    let sound₂ : IsSound p s₂ = sound_releases p (takes_back p a s) (Some b) (sound_takes_back p s a sound live) in
    let before : times m (empty_slabs p s) ≡ 0 = empty_slab_times p s m shape sound ∙ ap (λ (c : Bool). cond c 1 0) (was_not_empty p s b shape sound (was_used p s a b live release.0)) in
    let now : times m (empty_slabs p s₂) ≡ 1 = empty_slab_times p s₂ m shape sound₂ ∙ ap (λ (c : Bool). cond c 1 0) emptied in
    let same : (n : ℕ) → times n (empty_slabs p s₂) ≡ times n (m ∷ empty_slabs p s) = λ n. ⊎_elim
    (λ e. subst (λ (k : ℕ). times k (empty_slabs p s₂) ≡ times k (m ∷ empty_slabs p s)) e (omega (arith, now, before, times_here m (empty_slabs p s))))
    (λ ne. empty_slab_times p s₂ n shape sound₂ ∙ ap (λ (c : Bool). cond c 1 0) (same_empty p s a b n shape live (λ e. ne (sym e))) ∙ sym (empty_slab_times p s n shape sound) ∙ sym (times_apart n m (empty_slabs p s) ne))
    (cases_eq m n) in
    omega (arith, equally_long (empty_slabs p s₂) (m ∷ empty_slabs p s) same)
