-- A fill of usable bytes is contained.
use Rattle.std.proofs.Common.{◌≡◌, ◌⊎◌, inl, inr, ℕ, ◌+◌, ◌<◌, ◌≤◌, true, List, [], ◌∷◌, ◌++◌, length, sym, ◌∙◌, ap, subst, arith}
use Rattle.hm_model.specs.declared.entry.Call.{Call}
use Rattle.hm_model.specs.declared.entry.Call.TheVariants.{Fetch, Fill}
use Rattle.hm_model.specs.declared.entry.Reply.{Reply}
use Rattle.hm_model.specs.Machine.{Legal_split, state_push}
use Rattle.hm_model.specs.Runs.{expand}
use Rattle.hm_sizes.specs.declared.shape.Shape.{Shape}
use Rattle.hm_sizes.specs.Shapes.{IsShape, usable}
use Rattle.hm_class_rules.specs.State.{State, Slab, start, is_live}
use Rattle.hm_class_rules.specs.Bytes.{overlaid_slabs}
use Rattle.hm_class_rules.specs.Steps.{changed, step}
use Rattle.hm_class_rules.specs.Rules.{Terms, Allowed, state}
use Rattle.hm_class_rules.specs.Laws.{IsSound}
use Rattle.hm_class_rules.proofs.Sound.{sound_faults, sound_write}
use Rattle.hm_class_rules.proofs.Legal.{sound}
use Rattle.hm_guarantees.specs.ContainedFills.{ReadsNone, IsContained, ContainedFills}
use Rattle.hm_guarantees.proofs.AlikeSlabs.{AlikeSlabs, alike_over, alike_sym}
use Rattle.hm_guarantees.proofs.Alike.{at_slabs, IsUsable, byte_same, wrong_same, ReadsSame, allows_same}

-- the addresses of the usable bytes
record IsIn (a len q : ℕ) : Type 0 where
  low : a ≤ q
  high : q < a + len

contained : (t : Terms) (s : State) (a from : ℕ) (w : List ℕ) (f : ℕ) → IsShape t.shape → IsSound t.shape s → is_live s a ≡ true → a ≤ from → from + length w ≤ a + usable t.shape
    → IsContained t s (at_slabs (overlaid_slabs t.shape from w s.opens) f s) a
contained t s a from w f shape fit live low high = record {
  bytes = λ q out. sym (byte_same t.shape (IsIn a (usable t.shape)) s (overlaid_slabs t.shape from w s.opens) f alike shape q (λ i. outside q out i));
  canaries = λ b is. sym (wrong_same t (IsIn a (usable t.shape)) s (overlaid_slabs t.shape from w s.opens) f shape fit inside alike b is);
  answers = λ before now c call reply reads. (
    λ x. allows_same t (IsIn a (usable t.shape)) s (overlaid_slabs t.shape from w s.opens) f shape fit inside alike before now c call reply (reads_there call reads) x,
    λ x. allows_same t (IsIn a (usable t.shape)) (at_slabs (overlaid_slabs t.shape from w s.opens) f s) s.opens s.faults shape fit' inside' back before now c call reply (reads_back call reads) x,
  );
}
  where
    inside : (q : ℕ) → IsIn a (usable t.shape) q → IsUsable t.shape s q
    inside q i = record { slot = a; live = live; low = i.low; high = i.high }

    inside' : (q : ℕ) → IsIn a (usable t.shape) q → IsUsable t.shape (at_slabs (overlaid_slabs t.shape from w s.opens) f s) q
    inside' q i = record { slot = a; live = live; low = i.low; high = i.high }

    alike : AlikeSlabs t.shape (IsIn a (usable t.shape)) s.opens (overlaid_slabs t.shape from w s.opens)
    alike = alike_over t.shape (IsIn a (usable t.shape)) from w s.opens (λ q ge lt. record { low = omega (arith, ge, low); high = omega (arith, lt, high) })

    back : AlikeSlabs t.shape (IsIn a (usable t.shape)) (overlaid_slabs t.shape from w s.opens) s.opens
    back = alike_sym t.shape (IsIn a (usable t.shape)) s.opens (overlaid_slabs t.shape from w s.opens) alike

    fit' : IsSound t.shape (at_slabs (overlaid_slabs t.shape from w s.opens) f s)
    fit' = sound_faults t.shape _ f (sound_write t.shape s from w fit)

    outside : (q : ℕ) → (q < a) ⊎ (a + usable t.shape ≤ q) → IsIn a (usable t.shape) q → ⊥
    outside q (inl lt) i = omega (arith, lt, i.low)
    outside q (inr le) i = omega (arith, le, i.high)

    apart : (b count q : ℕ) → (b + count ≤ a) ⊎ (a + usable t.shape ≤ b) → b ≤ q → q < b + count → IsIn a (usable t.shape) q → ⊥
    apart b count q (inl l) low high i = omega (arith, l, high, i.low)
    apart b count q (inr r) low high i = omega (arith, r, low, i.high)

    reads_there : (call : Call) → ReadsNone a (usable t.shape) call → ReadsSame t (IsIn a (usable t.shape)) s (overlaid_slabs t.shape from w s.opens) f shape fit inside alike call
    reads_there (Fetch b count) reads = λ q low high i. apart b count q reads low high i
    reads_there call reads = tt

    reads_back : (call : Call) → ReadsNone a (usable t.shape) call → ReadsSame t (IsIn a (usable t.shape)) (at_slabs (overlaid_slabs t.shape from w s.opens) f s) s.opens s.faults shape fit' inside' back call
    reads_back (Fetch b count) reads = λ q low high i. apart b count q reads low high i
    reads_back call reads = tt

pub contained_fills : ContainedFills
contained_fills t before fill a shape legal live within =
    let p : Shape = t.shape in
    let s : State = state t before in
    let w : List ℕ = expand within.runs in
    let m : List (ℕ × Slab) = overlaid_slabs p within.from w s.opens in
    let s' : State = at_slabs m fill.faults_after s in
    let fit = sound t before shape (Legal_split (step p) (Allowed t) start before (fill ∷ []) legal).0 in
    let same : state t (before ++ fill ∷ []) ≡ s' =
    state_push (step p) (Allowed t) start before fill
    ∙ ap (λ (x : Call). record (changed p fill.choices x fill.reply s) { faults = fill.faults_after }) within.call
    ∙ ap (λ (r : Reply). record (changed p fill.choices (Fill within.from within.runs) r s) { faults = fill.faults_after }) within.reply in
    subst (λ (x : State). IsContained t s x a) (sym same) (contained t s a within.from w fill.faults_after shape fit live within.low within.high)
