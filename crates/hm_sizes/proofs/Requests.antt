-- Where a request goes, by the place of its size among the classes.
use Rattle.std.proofs.Common.{◌≡◌, ◌⊎◌, inl, inr, ⊎_elim, ℕ, zero, suc, ◌+◌, ◌-◌, ◌<◌, ◌≤◌, ◌^◌, nat_lt, true, false, map, sym, ap, ◌∙◌, subst, refl, arith}
use Rattle.std.specs.List.{range_with_len}
use Rattle.std.specs.List.Sorted.{IsPartitionedBy, IsPartitionPoint}
use Rattle.std.proofs.lemmas.Bool.Decides.{nat_tests}
use Rattle.std.proofs.lemmas.Bool.{cases_lt, ltb-true, ltb-false, lt-ltb, le-ltb, le-leb, lt-leb, cond-true, cond-false}
use Rattle.std.proofs.lemmas.List.Sorted.{IsNonDecreasingBy-from_default, IsPartitionedBy-ltb}
use Rattle.hm_sizes.specs.declared.table.SizeClass.{SizeClass}
use Rattle.hm_sizes.specs.declared.table.TheConstants.{SIZE_CLASSES}
use Rattle.hm_sizes.specs.Classes.{class_size}
use Rattle.hm_sizes.specs.declared.class.Kind.{Kind}
use Rattle.hm_sizes.specs.declared.class.Kind.TheVariants.{Small, Large, TooLarge}
use Rattle.hm_sizes.specs.Sizes.{raised, least_size, block_size, IsLeastClass, IsKindOf}
use Rattle.hm_sizes.specs.Laws.{size_given}
use Rattle.hm_sizes.proofs.ClassTable.{row, unlisted, is_row, ascends, sizes_most}

-- ---- raised sizes
raised_some : (asked : ℕ) → 1 ≤ asked → asked ≤ 131072 → raised asked ≡ asked + 8
raised_some asked some most = grind (arith, nat_tests)

raised_past : (asked : ℕ) → 131072 < asked → raised asked ≡ asked
raised_past asked past = grind (arith, nat_tests)

zero_or : (n : ℕ) → (n ≡ 0) ⊎ (1 ≤ n)
zero_or zero = inl refl
zero_or (suc n) = inr (omega arith)

-- the class of this size holds the request
holds : (asked size : ℕ) → asked ≤ size - 8 → size ≤ 131072 → raised asked ≤ size
holds asked size le most =
    ⊎_elim (λ (none : asked ≡ 0). grind (arith, nat_tests))
    (λ (some : 1 ≤ asked). omega (arith, raised_some asked some (omega arith)))
    (zero_or asked)

-- the class of this size does not
falls_short : (asked size : ℕ) → size - 8 < asked → asked ≤ 131072 → size < raised asked
falls_short asked size lt most = omega (arith, raised_some asked (omega arith) most)

raised_above : (asked : ℕ) → 131064 < asked → 131072 < raised asked
raised_above asked lt =
    ⊎_elim (λ (past : 131072 < asked). omega (arith, raised_past asked past))
    (λ (most : asked ≤ 131072). omega (arith, raised_some asked (omega arith) most))
    (cases_lt 131072 asked)

-- ---- the search
greatest_rises : (i j : ℕ) → i ≤ j → j < 49 → (row i).greatest ≤ (row j).greatest
greatest_rises i j le lt =
    ⊎_elim (λ (less : i < j). omega (arith, (is_row i (omega arith)).greatest, (is_row j lt).greatest, ascends i j less lt))
    (λ (ge : j ≤ i). let e : i ≡ j = omega arith in rw e (omega arith))
    (cases_lt i j)

pub parted : (asked : ℕ) → IsPartitionedBy (λ (r : SizeClass). nat_lt r.greatest asked) SIZE_CLASSES
parted asked =
    IsPartitionedBy-ltb (λ (r : SizeClass). r.greatest) SIZE_CLASSES asked
    (IsNonDecreasingBy-from_default (λ (r : SizeClass). r.greatest) SIZE_CLASSES unlisted greatest_rises)

abbrev pub IsFound : ℕ → ℕ → Type 0
IsFound asked class =
    IsPartitionPoint (λ (r : SizeClass). nat_lt r.greatest asked ≡ true) (λ (r : SizeClass). nat_lt r.greatest asked ≡ false) SIZE_CLASSES class

pub small_kind : (asked class : ℕ) → class < 49 → IsFound asked class → (raised asked ≤ 131072) × IsLeastClass (raised asked) class
small_kind asked class lt found =
    let most : class_size class ≤ 131072 = sizes_most class lt in
    let held : asked ≤ (row class).greatest = ltb-false _ _ (found.1 class unlisted (omega arith) lt) in
    let fits : asked ≤ class_size class - 8 = omega (arith, (is_row class lt).greatest) in (
      omega (arith, holds asked (class_size class) fits most),
      record {
        below = lt;
        holds = holds asked (class_size class) fits most;
        least = λ smaller less.
            let short : (row smaller).greatest < asked = ltb-true _ _ (found.0 smaller unlisted (omega arith) less) in
            falls_short asked (class_size smaller) (omega (arith, (is_row smaller (omega arith)).greatest)) (omega arith);
      },
    )

pub large_kind : (asked class : ℕ) → 49 ≤ class → IsFound asked class → 131072 < raised asked
large_kind asked class ge found =
    raised_above asked (ltb-true 131064 asked (found.0 48 unlisted (omega arith) (omega arith)))

-- ---- the size of a request's block
-- the first size that holds r is that of the least class that does
least_found : (r a n i : ℕ) → i < n → r ≤ class_size (a + i) → ((k : ℕ) → k < i → class_size (a + k) < r)
    → least_size r (map class_size (range_with_len a n)) ≡ class_size (a + i)
least_found r a zero i lt held short = absurd (omega arith)
least_found r a (suc n) zero lt held short =
    let e : a + 0 ≡ a = omega arith in
    let here : r ≤ class_size a = subst (λ (k : ℕ). r ≤ class_size k) e held in
    cond-true _ _ _ (le-leb r (class_size a) here) ∙ ap class_size (sym e)
least_found r a (suc n) (suc i) lt held short =
    let e : a + 1 + i ≡ a + suc i = omega arith in
    let e0 : a + 0 ≡ a = omega arith in
    let first : class_size a < r = subst (λ (k : ℕ). class_size k < r) e0 (short 0 (omega arith)) in
    cond-false _ _ _ (lt-leb r (class_size a) first)
    ∙ least_found r (a + 1) n i (omega arith) (subst (λ (k : ℕ). r ≤ class_size k) (sym e) held)
    (λ k less. let next : a + suc k ≡ a + 1 + k = omega arith in subst (λ (m : ℕ). class_size m < r) next (short (suc k) (omega arith)))
    ∙ ap class_size e

raised_least : (asked : ℕ) → asked ≤ raised asked
raised_least asked = grind (arith, nat_tests)

pub agrees : (asked : ℕ) (kind : Kind) → IsKindOf asked kind → block_size asked ≡ size_given asked kind
agrees asked (Small class) h =
    let least : IsLeastClass (raised asked) class.0 = h.1 in
    let e : 0 + class.0 ≡ class.0 = omega arith in
    cond-false _ _ _ (le-ltb (2 ^ 30) asked (omega (arith, raised_least asked)))
    ∙ cond-true _ _ _ (le-leb (raised asked) 131072 h.0)
    ∙ least_found (raised asked) 0 49 class.0 least.below (subst (λ (k : ℕ). raised asked ≤ class_size k) (sym e) least.holds)
    (λ k less. let ek : k ≡ 0 + k = omega arith in subst (λ (m : ℕ). class_size m < raised asked) ek (least.least k less))
    ∙ ap class_size e
agrees asked (Large size) h =
    cond-false _ _ _ (le-ltb (2 ^ 30) asked h.1) ∙ cond-false _ _ _ (lt-leb (raised asked) 131072 h.0) ∙ sym h.2
agrees asked TooLarge h = cond-true _ _ _ (lt-ltb (2 ^ 30) asked h)
