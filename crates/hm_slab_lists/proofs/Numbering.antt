-- Numbers of slabs: each slab has one, and lists of numbers follow lists of indices.
use Rattle.std.proofs.Common.{◌≡◌, ◌≢◌, ℕ, zero, suc, ◌+◌, ◌%◌, ◌<◌, ◌≤◌, inl, inr, true, false, List, [], ◌∷◌, refl, sym, ap, ◌∙◌, arith}
use Rattle.std.proofs.lemmas.Bool.{cases_eq, cases_order, cases_Bool, both_ways, eq-eqb, ne_eqb, cond-true, cond-false}
use Rattle.std.proofs.lemmas.List.{map-append}
use Rattle.std.specs.Prelude.{◌==◌, map}
use Rattle.hm_slab_lists.specs.declared.slab.ListName.{ListName}
use Rattle.hm_slab_lists.specs.declared.slab.ListName.TheVariants.{Partial, Empty, Full, Retired}
use Rattle.hm_base.specs.Members.{among, without}
use Rattle.hm_slab_lists.specs.Lists.{Lists, list_in, gone, headed, ended, placed}
use Rattle.hm_sizes.specs.Guards.{after}
use Rattle.hm_slab_lists.specs.Numbers.{nth_slab}
use Rattle.hm_slab_lists.specs.Table.{numbered}
use Rattle.hm_base.proofs.Members.{among_head, among_tail, among_cases, without_skip, without_keep}

nth_less : (g i j : ℕ) → 1 ≤ g → g ≤ 8 → i < j → nth_slab g i < nth_slab g j
nth_less g i j some few less = grind arith

pub same_index : (g i j : ℕ) → 1 ≤ g → g ≤ 8 → nth_slab g i ≡ nth_slab g j → i ≡ j
same_index g i j some few same =
    elim (cases_order i j) as (λ _. i ≡ j) [
      | inl e ↦ e
      | inr w ↦ elim w as (λ _. i ≡ j) [
        | inl lt ↦ absurd (omega (arith, nth_less g i j some few lt, same))
        | inr gt ↦ absurd (omega (arith, nth_less g j i some few gt, same))
      ]
    ]

-- where the next number is a guard's, it is left out
guard : (g i : ℕ) → 1 ≤ g → g ≤ 8 → (nth_slab g i + 1) % (g + 1) ≡ g → nth_slab g (i + 1) ≡ nth_slab g i + 2
guard zero i some few e = absurd (omega arith)
guard (suc zero) i some few e = omega (arith, e)
guard (suc (suc zero)) i some few e = omega (arith, e)
guard (suc (suc (suc zero))) i some few e = omega (arith, e)
guard (suc (suc (suc (suc zero)))) i some few e = omega (arith, e)
guard (suc (suc (suc (suc (suc zero))))) i some few e = omega (arith, e)
guard (suc (suc (suc (suc (suc (suc zero)))))) i some few e = omega (arith, e)
guard (suc (suc (suc (suc (suc (suc (suc zero))))))) i some few e = omega (arith, e)
guard (suc (suc (suc (suc (suc (suc (suc (suc zero)))))))) i some few e = omega (arith, e)
guard (suc (suc (suc (suc (suc (suc (suc (suc (suc g))))))))) i some few e = absurd (omega arith)

no_guard : (g i : ℕ) → 1 ≤ g → g ≤ 8 → (nth_slab g i + 1) % (g + 1) ≢ g → nth_slab g (i + 1) ≡ nth_slab g i + 1
no_guard zero i some few n = absurd (omega arith)
no_guard (suc zero) i some few n = omega (arith, n)
no_guard (suc (suc zero)) i some few n = omega (arith, n)
no_guard (suc (suc (suc zero))) i some few n = omega (arith, n)
no_guard (suc (suc (suc (suc zero)))) i some few n = omega (arith, n)
no_guard (suc (suc (suc (suc (suc zero))))) i some few n = omega (arith, n)
no_guard (suc (suc (suc (suc (suc (suc zero)))))) i some few n = omega (arith, n)
no_guard (suc (suc (suc (suc (suc (suc (suc zero))))))) i some few n = omega (arith, n)
no_guard (suc (suc (suc (suc (suc (suc (suc (suc zero)))))))) i some few n = omega (arith, n)
no_guard (suc (suc (suc (suc (suc (suc (suc (suc (suc g))))))))) i some few n = absurd (omega arith)

pub nth-after : (g i : ℕ) → 1 ≤ g → g ≤ 8 → nth_slab g (i + 1) ≡ after g (nth_slab g i)
nth-after g i some few =
    elim (cases_eq ((nth_slab g i + 1) % (g + 1)) g) as (λ _. nth_slab g (i + 1) ≡ after g (nth_slab g i)) [
      | inl e ↦ guard g i some few e ∙ sym (cond-true (((nth_slab g i + 1) % (g + 1)) == g) (nth_slab g i + 2) (nth_slab g i + 1) (eq-eqb ((nth_slab g i + 1) % (g + 1)) g e))
      | inr n ↦ no_guard g i some few n ∙ sym (cond-false (((nth_slab g i + 1) % (g + 1)) == g) (nth_slab g i + 2) (nth_slab g i + 1) (ne_eqb ((nth_slab g i + 1) % (g + 1)) g n))
    ]

-- ---- lists of numbers
module _ (g : ℕ) (some : 1 ≤ g) (few : g ≤ 8) where
  pub among-numbers : (i : ℕ) (xs : List ℕ) → among (nth_slab g i) (map (nth_slab g) xs) ≡ among i xs
  among-numbers i [] = refl
  among-numbers i (x ∷ xs) =
      elim (cases_eq x i) as (λ _. among (nth_slab g i) (map (nth_slab g) (x ∷ xs)) ≡ among i (x ∷ xs)) [
        | inl e ↦ among_head (nth_slab g i) (nth_slab g x) (map (nth_slab g) xs) (ap (nth_slab g) e) ∙ sym (among_head i x xs e)
        | inr n ↦
            among_tail (nth_slab g i) (nth_slab g x) (map (nth_slab g) xs) (λ e. n (same_index g x i some few e))
            ∙ among-numbers i xs ∙ sym (among_tail i x xs n)
      ]

  pub without-numbers : (i : ℕ) (xs : List ℕ) → map (nth_slab g) (without i xs) ≡ without (nth_slab g i) (map (nth_slab g) xs)
  without-numbers i [] = refl
  without-numbers i (x ∷ xs) =
      elim (cases_eq x i) as (λ _. map (nth_slab g) (without i (x ∷ xs)) ≡ without (nth_slab g i) (map (nth_slab g) (x ∷ xs))) [
        | inl e ↦
            ap (map (nth_slab g)) (without_skip i x xs e) ∙ without-numbers i xs
            ∙ sym (without_skip (nth_slab g i) (nth_slab g x) (map (nth_slab g) xs) (ap (nth_slab g) e))
        | inr n ↦
            ap (map (nth_slab g)) (without_keep i x xs n) ∙ ap (λ (l : List ℕ). nth_slab g x ∷ l) (without-numbers i xs)
            ∙ sym (without_keep (nth_slab g i) (nth_slab g x) (map (nth_slab g) xs) (λ e. n (same_index g x i some few e)))
      ]

  pub numbered-gone : (i : ℕ) (lists : Lists) → numbered g (gone i lists) ≡ gone (nth_slab g i) (numbered g lists)
  numbered-gone i lists = λ t. record {
    partial = without-numbers i lists.partial t;
    empty = without-numbers i lists.empty t;
    full = without-numbers i lists.full t;
    retired = without-numbers i lists.retired t;
  }

pub list_in-numbered : (g : ℕ) (lists : Lists) (k : ListName) → list_in (numbered g lists) k ≡ map (nth_slab g) (list_in lists k)
list_in-numbered g lists Partial = refl
list_in-numbered g lists Empty = refl
list_in-numbered g lists Full = refl
list_in-numbered g lists Retired = refl

pub numbered-headed : (g i : ℕ) (k : ListName) (lists : Lists) → numbered g (headed k i lists) ≡ headed k (nth_slab g i) (numbered g lists)
numbered-headed g i Partial lists = refl
numbered-headed g i Empty lists = refl
numbered-headed g i Full lists = refl
numbered-headed g i Retired lists = refl

pub numbered-ended : (g i : ℕ) (lists : Lists) → numbered g (ended Retired i lists) ≡ ended Retired (nth_slab g i) (numbered g lists)
numbered-ended g i lists = λ t. record {
  partial = map (nth_slab g) lists.partial;
  empty = map (nth_slab g) lists.empty;
  full = map (nth_slab g) lists.full;
  retired = map-append (nth_slab g) lists.retired (i ∷ []) t;
}

pub numbered-placed : (g i : ℕ) (k : ListName) (lists : Lists) → 1 ≤ g → g ≤ 8 → numbered g (placed k i lists) ≡ placed k (nth_slab g i) (numbered g lists)
numbered-placed g i k lists some few =
    elim (cases_Bool (among i (list_in lists k))) as (λ _. numbered g (placed k i lists) ≡ placed k (nth_slab g i) (numbered g lists)) [
      | inl e ↦
          ap (numbered g) (cond-true (among i (list_in lists k)) lists (headed k i (gone i lists)) e)
          ∙ sym (cond-true (among (nth_slab g i) (list_in (numbered g lists) k)) (numbered g lists) (headed k (nth_slab g i) (gone (nth_slab g i) (numbered g lists))) (same ∙ e))
      | inr e ↦
          ap (numbered g) (cond-false (among i (list_in lists k)) lists (headed k i (gone i lists)) e)
          ∙ numbered-headed g i k (gone i lists) ∙ ap (headed k (nth_slab g i)) (numbered-gone g some few i lists)
          ∙ sym (cond-false (among (nth_slab g i) (list_in (numbered g lists) k)) (numbered g lists) (headed k (nth_slab g i) (gone (nth_slab g i) (numbered g lists))) (same ∙ e))
    ]
  where
    same : among (nth_slab g i) (list_in (numbered g lists) k) ≡ among i (list_in lists k)
    same = ap (among (nth_slab g i)) (list_in-numbered g lists k) ∙ among-numbers g some few i (list_in lists k)

-- a number in a list of numbers is that of an index
pub numbered_member : (g n : ℕ) (xs : List ℕ) → among n (map (nth_slab g) xs) ≡ true → (i : ℕ) × (nth_slab g i ≡ n) × (among i xs ≡ true)
numbered_member g n [] is = absurd (both_ways false refl is)
numbered_member g n (x ∷ xs) is =
    elim (among_cases n (nth_slab g x) (map (nth_slab g) xs) is) as (λ _. (i : ℕ) × (nth_slab g i ≡ n) × (among i (x ∷ xs) ≡ true)) [
      | inl e ↦ (x, e, among_head x x xs refl)
      | inr there ↦
          let it = numbered_member g n xs there in (
            it.0,
            it.1,
            elim (cases_eq x it.0) as (λ _. among it.0 (x ∷ xs) ≡ true) [ inl e ↦ among_head it.0 x xs e | inr d ↦ among_tail it.0 x xs d ∙ it.2 ],
          )
    ]
