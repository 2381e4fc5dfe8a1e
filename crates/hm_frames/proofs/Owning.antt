-- Which units have bytes of their own, after a lend and after a fill.
use Rattle.std.proofs.Common.{◌≡◌, ◌≢◌, ⊎_elim, ◌⊎◌, inl, inr, ℕ, zero, suc, ◌+◌, ◌-◌, ◌*◌, ◌/◌, ◌<◌, ◌≤◌, List, [], ◌∷◌, map, length, min, replicate, Bool, true, false, ◌||◌, refl, sym, ap, ◌∙◌, arith}
use Rattle.std.proofs.lemmas.Bool.{cases_lt}
use Rattle.std.proofs.lemmas.Bool.Decides.{nat_tests}
use Rattle.std.proofs.lemmas.List.{length-map, length-replicate, get_or-replicate, ext_get_or}
use Rattle.std.proofs.lemmas.List.FromFn.{length-map-range_with_len, get_or-map-range_with_len}
use Rattle.std.specs.Prelude.{get_or}
use Rattle.hm_frames.specs.declared.unit.UnitBytes.{UnitBytes}
use Rattle.hm_frames.specs.declared.unit.UnitBytes.TheVariants.{Same, Own}
use Rattle.hm_frames.specs.Units.{is_own, own_units}
use Rattle.hm_frames.specs.OwnUnits.{KeptRun, none_own, is_met, with_lent, OwnFilled}

-- the bytes of a run
pub bytes_are : {r q : KeptRun} → r ≡ q → r.bytes ≡ q.bytes
bytes_are e = ap (λ (r : KeptRun). r.bytes) e

-- unit by unit
pub own_at : (units : List UnitBytes) (p : ℕ) → get_or (own_units units) p false ≡ is_own (get_or units p (Same 0))
own_at [] p = refl
own_at (unit ∷ units) zero = refl
own_at (unit ∷ units) (suc p) = own_at units p

pub own_count : (units : List UnitBytes) → length (own_units units) ≡ length units
own_count units = length-map units is_own

same_units : (new old : List UnitBytes) (p : ℕ) → get_or new p (Same 0) ≡ get_or old p (Same 0) → get_or (own_units new) p false ≡ get_or (own_units old) p false
same_units new old p is = own_at new p ∙ ap is_own is ∙ sym (own_at old p)

-- fresh units
pub all_same_own : (k : ℕ) → own_units (replicate k (Same 0)) ≡ replicate k false
all_same_own zero = refl
all_same_own (suc k) = ap (λ (l : List Bool). false ∷ l) (all_same_own k)

-- ---- a lend
met : (from len p : ℕ) → 512 * p < from + len → from < 512 * p + 512 → is_met from len p ≡ true
met from len p ends begins = grind (arith, nat_tests)

unmet : (from len p : ℕ) → (512 * p + 512 ≤ from) ⊎ (from + len ≤ 512 * p) → is_met from len p ≡ false
unmet from len p beside = grind (arith, nat_tests)

pub lent_units : (new old : List UnitBytes) (from len end : ℕ) → length new ≡ length old → end ≡ (from + len + 511) / 512
    → ((p : ℕ) → from / 512 ≤ p → p < end → get_or new p (Same 0) ≡ Own)
    → ((p : ℕ) → (p < from / 512) ⊎ (end ≤ p) → get_or new p (Same 0) ≡ get_or old p (Same 0))
    → own_units new ≡ with_lent (own_units old) from len
lent_units new old from len end count ends own others =
    let was = own_units old in
    let one = λ (unit : ℕ). is_met from len unit || get_or was unit false in
    let as_many : length (own_units new) ≡ length was = own_count new ∙ count ∙ sym (own_count old) in
    ext_get_or false (own_units new) (with_lent was from len) (as_many ∙ sym (length-map-range_with_len one 0 (length was)))
    (λ p lt. let small : p < length was = omega (arith, lt, as_many) in
    let read = get_or-map-range_with_len one 0 (length was) p p false small (omega arith) in
    let beside = λ (e : (512 * p + 512 ≤ from) ⊎ (from + len ≤ 512 * p)).
    same_units new old p (others p (⊎_elim (λ b. inl (omega (arith, b))) (λ a. inr (omega (arith, a, ends))) e)) ∙ sym (ap (λ (b : Bool). b || get_or was p false) (unmet from len p e)) in
    ⊎_elim
    (λ inside. ⊎_elim
    (λ begun. own_at new p ∙ ap is_own (own p (omega (arith, begun)) (omega (arith, inside, ends))) ∙ sym (ap (λ (b : Bool). b || get_or was p false) (met from len p inside begun)))
    (λ past. beside (inl past))
    (cases_lt from (512 * p + 512)))
    (λ after. beside (inr after))
    (cases_lt (512 * p) (from + len))
    ∙ sym read)

-- ---- a fill, unit by unit

-- so far, up to a cell that is where the range begins, or where a unit does, or where the range ends
abbrev pub Stops : ℕ → ℕ → ℕ → Type 0
Stops from to at = (at ≡ from) ⊎ ((at ≡ 512 * (at / 512)) ⊎ (at ≡ to))

pub next_stop : (from to at next : ℕ) → next ≡ min to ((at / 512 + 1) * 512) → Stops from to next
next_stop from to at next is = ⊎_elim
    (λ whole. inr (inl (omega (arith, is, whole))))
    (λ last. inr (inr (omega (arith, is, last))))
    (cases_lt ((at / 512 + 1) * 512) to)

pub filled_next : (was : List Bool) (old new : List UnitBytes) (from at next to : ℕ) → OwnFilled was from (at - from) (own_units old) → from ≤ at → at < to → Stops from to at
    → next ≡ min to ((at / 512 + 1) * 512) → length new ≡ length old
    → (next - at ≡ 512 → is_own (get_or new (at / 512) (Same 0)) ≡ false)
    → ((p : ℕ) → p ≢ at / 512 → get_or new p (Same 0) ≡ get_or old p (Same 0))
    → OwnFilled was from (next - from) (own_units new)
filled_next was old new from at next to done low more stop is count whole others = record {
  count = own_count new ∙ count ∙ sym (own_count old) ∙ done.count;
  whole = λ unit begins ends. ⊎_elim
      (λ here. own_at new unit ∙ ap (λ (k : ℕ). is_own (get_or new k (Same 0))) {x = unit} {y = at / 512} (omega (arith, begins, ends, here, is, low, more, stop))
      ∙ whole (omega (arith, begins, ends, here, is, low, more, stop)))
      (λ before. same_units new old unit (others unit (λ e. absurd (omega (arith, e, before)))) ∙ done.whole unit begins (omega (arith, before, low)))
      (cases_lt at (512 * unit + 512));
  beside = λ unit e.
      same_units new old unit (others unit (λ same. absurd (omega (arith, e, same, is, low, more))))
      ∙ done.beside unit (⊎_elim (λ b. inl b) (λ a. inr (omega (arith, a, is, low, more))) e);
}

-- all of them
pub all_filled_own : (old new : List Bool) (len : ℕ) → len ≡ 512 * length old → OwnFilled old 0 len new → new ≡ none_own len
all_filled_own old new len as_long filled =
    let n : length new ≡ len / 512 = omega (arith, as_long, filled.count) in
    ext_get_or false new (none_own len) (n ∙ sym (length-replicate (len / 512) false))
    (λ p lt. filled.whole p (omega arith) (omega (arith, lt, filled.count, as_long)) ∙ sym (get_or-replicate (len / 512) p false false (omega (arith, lt, n))))
