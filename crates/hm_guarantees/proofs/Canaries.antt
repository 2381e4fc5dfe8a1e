-- Each slab keeps a canary of 8 bytes whose lowest is 0.
use Rattle.std.proofs.Common.{◌≡◌, ⊎_elim, ℕ, ◌+◌, ◌<◌, ◌^◌, ◌==◌, true, false, cond, List, [], ◌∷◌, Option, Some, None, unwrap_or, sym, ◌∙◌, ap, subst, refl, arith}
use Rattle.std.specs.Prelude.{IfSome}
use Rattle.std.specs.Option.{option_map_or}
use Rattle.std.specs.Int.{to_le_bytes}
use mir.Syntax.{w64}
use Rattle.std.proofs.lemmas.Bool.{cases_eq}
use Rattle.std.proofs.lemmas.Option.{none-some, same_Some}
use Rattle.hm_base.specs.Lists.{zeros}
use Rattle.hm_choice.specs.Stream.{canary_of}
use Rattle.hm_model.specs.declared.entry.Entry.{Entry}
use Rattle.hm_model.specs.declared.entry.Call.{Call}
use Rattle.hm_model.specs.declared.entry.Call.TheVariants.{Allot, GiveBack, Fill}
use Rattle.hm_model.specs.declared.entry.Choices.{Choices}
use Rattle.hm_model.specs.declared.entry.Reply.{Reply}
use Rattle.hm_model.specs.declared.entry.Reply.TheVariants.{Given, Overwritten, Freed, Filled}
use Rattle.hm_model.specs.Machine.{state_after, Legal}
use Rattle.hm_model.specs.Maps.{at, removed, put}
use Rattle.hm_model.specs.Runs.{expand}
use Rattle.hm_model.proofs.Lists.{eq_other}
use Rattle.hm_sizes.specs.declared.shape.Shape.{Shape}
use Rattle.hm_sizes.specs.Shapes.{slab_at, slab_of, usable}
use Rattle.hm_class_rules.specs.State.{State, Slab}
use Rattle.hm_class_rules.specs.Bytes.{overlaid_slabs, kept_canary}
use Rattle.hm_class_rules.specs.Steps.{new_slab, opened, takes_back, releases, unparks, retires, purges, changed, step}
use Rattle.hm_class_rules.specs.Rules.{Terms, Allowed, state}
use Rattle.hm_class_rules.specs.Draws.{Event, Picked, event_of}
use Rattle.hm_class_rules.specs.Stepped.{Cells, first_cells, next, IsSteppedEntry, IsSteppedEvent}
use Rattle.hm_class_rules.proofs.Alike.{drawn_is_stepped}
use Rattle.hm_class_rules.proofs.Streams.{AreWords, words_below}
use Rattle.hm_class_rules.proofs.Whole.{over, at_over, over_at, at_removed, at_removed_same}
use Rattle.hm_guarantees.specs.Canaries.{IsCanary, CanariesFit}

-- ---- what is drawn
drawn_fits : (low high : ℕ) → low < 2 ^ 32 → high < 2 ^ 32 → IsCanary (canary_of low high)
drawn_fits low high small few = record { fits = omega (arith, small, few); ends_text = omega arith }

zero_fits : IsCanary 0
zero_fits = record { fits = omega arith; ends_text = refl }

chosen_fits : (o : Option ℕ) (low high : ℕ) → low < 2 ^ 32 → high < 2 ^ 32 → IfSome o (λ k. k ≡ canary_of low high) → IsCanary (unwrap_or o 0)
chosen_fits None low high small few h = zero_fits
chosen_fits (Some k) low high small few h = subst (λ (x : ℕ). IsCanary x) (sym h) (drawn_fits low high small few)

-- ---- open slabs
AllFit : List (ℕ × Slab) → Type 0
AllFit m = (n : ℕ) (b : Slab) → at n m ≡ Some b → IsCanary b.canary

fit_write : (p : Shape) (x : ℕ) (w : List ℕ) (m : List (ℕ × Slab)) → AllFit m → AllFit (overlaid_slabs p x w m)
unfolding AllFit
fit_write p x w m h n b is =
    let o = over_at p x w n m b is in
    let same : b ≡ over p x w n o.0 = same_Some b (over p x w n o.0) (sym is ∙ at_over p x w n m o.0 o.1) in
    subst (λ (s : Slab). IsCanary s.canary) (sym same) (h n o.0 o.1)

fit_removed : (k : ℕ) (m : List (ℕ × Slab)) → AllFit m → AllFit (removed k m)
unfolding AllFit
fit_removed k m h n b is =
    ⊎_elim
    (λ same. absurd (none-some b (sym (at_removed_same k m) ∙ ap (λ (x : ℕ). at x (removed k m)) same ∙ is)))
    (λ ne. h n b (sym (at_removed k n m ne) ∙ is))
    (cases_eq k n)

fit_put : (k : ℕ) (x : Slab) (m : List (ℕ × Slab)) → IsCanary x.canary → AllFit m → AllFit (put k x m)
unfolding AllFit
fit_put k x m fits h n b is =
    elim (k == n) as (λ t. (k == n) ≡ t → cond t (Some x) (at n (removed k m)) ≡ Some b → IsCanary b.canary) [
      | true ↦ λ e i. subst (λ (s : Slab). IsCanary s.canary) (same_Some x b i) fits
      | false ↦ λ e i. h n b (sym (at_removed k n m (eq_other k n e)) ∙ i)
    ] refl is

fit_opened : (p : Shape) (o canary : Option ℕ) (s : State) → IsCanary (unwrap_or canary 0) → AllFit s.opens → AllFit (opened p o canary s).opens
fit_opened p None canary s fits h = h
fit_opened p (Some n) canary s fits h = fit_put n (new_slab p (unwrap_or canary 0)) s.opens fits h

fit_released : (o : Option ℕ) (s : State) → AllFit s.opens → AllFit (releases o s).opens
fit_released None s h = h
fit_released (Some b) s h = h

fit_unparked : (o : Option ℕ) (s : State) → AllFit s.opens → AllFit (unparks o s).opens
fit_unparked None s h = h
fit_unparked (Some u) s h = h

fit_retired : (o : Option ℕ) (s : State) → AllFit s.opens → AllFit (retires o s).opens
fit_retired None s h = h
fit_retired (Some m) s h = fit_removed m s.opens h

fit_purged : (p : Shape) (o : Option ℕ) (s : State) → AllFit s.opens → AllFit (purges p o s).opens
fit_purged p None s h = h
fit_purged p (Some m) s h = fit_write p (slab_at p m) (zeros p.slab) s.opens h

fit_changed : (p : Shape) (c : Choices) (call : Call) (reply : Reply) (s : State) → ((a : ℕ) → event_of call reply ≡ Picked a → IsCanary (unwrap_or c.canary 0)) → AllFit s.opens → AllFit (changed p c call reply s).opens
fit_changed p c (Allot asked align) (Given a size) s fresh h =
    let now : State = opened p c.opened c.canary s in
    fit_write p (a + usable p) (to_le_bytes w64 (kept_canary p now a)) now.opens (fit_opened p c.opened c.canary s (fresh a refl) h)
fit_changed p c (Allot asked align) (Overwritten a place found) s fresh h = fit_opened p c.opened c.canary s (fresh a refl) h
fit_changed p c (GiveBack a stated) Freed s fresh h =
    let s₁ : State = takes_back p a s in
    let s₂ : State = releases c.released s₁ in
    let s₃ : State = unparks c.unparked s₂ in
    fit_purged p c.purged (retires c.retired s₃) (fit_retired c.retired s₃ (fit_unparked c.unparked s₂ (fit_released c.released s₁ (fit_write p a (zeros (usable p)) s.opens h))))
fit_changed p c (Fill a runs) Filled s fresh h = fit_write p a (expand runs) s.opens h
fit_changed p c call reply s fresh h = h

-- ---- all entries
fit_run : (t : Terms) (c : Cells) (es : List Entry) → Legal (step t.shape) (Allowed t) c.state es → Legal (next t) (IsSteppedEntry t) c es → AllFit c.state.opens → AllFit (state_after (step t.shape) (Allowed t) c.state es).opens
fit_run t c [] legal stepped h = h
fit_run t c (e ∷ es) legal stepped h =
    let words : AreWords e.draws = words_below e.draws c.stream legal.0.draws stepped.0.words in
    fit_run t (next t c e) es legal.1 stepped.1
    (fit_changed t.shape e.choices e.call e.reply c.state
    (λ a is. picked a (subst (λ (ev : Event). IsSteppedEvent t c e ev) is stepped.0.choices) words) h)
  where
    picked : (a : ℕ) → IsSteppedEvent t c e (Picked a) → AreWords e.draws → IsCanary (unwrap_or e.choices.canary 0)
    picked a x words = chosen_fits e.choices.canary e.draws.w0 e.draws.w1 words.first words.second x.picked.canary

pub canaries_fit : CanariesFit
unfolding AllFit
canaries_fit seed arena t es a parks shape legal drawn =
    kept (at (slab_of t.shape a) (state t es).opens) refl
  where
    all : AllFit (state t es).opens
    all = fit_run t (first_cells seed arena t) es legal ((drawn_is_stepped seed arena t es parks shape legal).0 drawn).entries (λ n b is. absurd (none-some b is))

    kept : (o : Option Slab) → at (slab_of t.shape a) (state t es).opens ≡ o → IsCanary (option_map_or (λ (b : Slab). b.canary) o 0)
    kept None e = zero_fits
    kept (Some b) e = all (slab_of t.shape a) b e
