-- How often numbers stand in lists and among the keys of maps.
use Rattle.std.proofs.Common.{◌≡◌, ◌≢◌, ℕ, ◌+◌, ◌≤◌, ◌==◌, Bool, true, false, cond, not, ◌||◌, List, [], ◌∷◌, ◌++◌, Some, is_some, sym, ◌∙◌, ap, refl, arith, true≢false}
pub use Rattle.std.proofs.lemmas.Bool.{eq-eqb as same_eq, ne_eqb as other_eq, eqb-true as eq_same, eqb-false as eq_other}
use Rattle.hm_model.specs.Maps.{among, times, without, at, has, removed, keys}

pub times_among : (a : ℕ) (xs : List ℕ) → among a xs ≡ true → 1 ≤ times a xs
times_among a [] e = absurd (true≢false (sym e))
times_among a (x ∷ xs) e =
    elim (x == a) as (λ b. (b || among a xs) ≡ true → 1 ≤ cond b 1 0 + times a xs) [ true ↦ λ h. omega arith | false ↦ λ h. omega (arith, times_among a xs h) ] e

pub among_times : (a : ℕ) (xs : List ℕ) → 1 ≤ times a xs → among a xs ≡ true
among_times a [] h = absurd (omega arith)
among_times a (x ∷ xs) h =
    elim (x == a) as (λ b. 1 ≤ cond b 1 0 + times a xs → (b || among a xs) ≡ true) [ true ↦ λ h. refl | false ↦ λ h. among_times a xs (omega arith) ] h

pub times_none : (a : ℕ) (xs : List ℕ) → among a xs ≡ false → times a xs ≡ 0
times_none a [] e = refl
times_none a (x ∷ xs) e =
    elim (x == a) as (λ b. (b || among a xs) ≡ false → cond b 1 0 + times a xs ≡ 0) [ true ↦ λ h. absurd (true≢false h) | false ↦ λ h. omega (arith, times_none a xs h) ] e

pub among_none : (a : ℕ) (xs : List ℕ) → times a xs ≡ 0 → among a xs ≡ false
among_none a [] e = refl
among_none a (x ∷ xs) e =
    elim (x == a) as (λ b. cond b 1 0 + times a xs ≡ 0 → (b || among a xs) ≡ false) [ true ↦ λ h. absurd (omega arith) | false ↦ λ h. among_none a xs (omega arith) ] e

pub times_here : (a : ℕ) (xs : List ℕ) → times a (a ∷ xs) ≡ 1 + times a xs
times_here a xs = ap (λ (b : Bool). cond b 1 0 + times a xs) (same_eq a a refl)

pub times_apart : (a x : ℕ) (xs : List ℕ) → x ≢ a → times a (x ∷ xs) ≡ times a xs
times_apart a x xs ne = ap (λ (b : Bool). cond b 1 0 + times a xs) (other_eq x a ne) ∙ omega arith

pub without_same : (a : ℕ) (xs : List ℕ) → times a (without a xs) ≡ 0
without_same a [] = refl
without_same a (x ∷ xs) =
    elim (x == a) as (λ b. (x == a) ≡ b → times a (cond (not b) (x ∷ without a xs) (without a xs)) ≡ 0) [
      | true ↦ λ is. without_same a xs
      | false ↦ λ is. ap (λ (b : Bool). cond b 1 0 + times a (without a xs)) is ∙ omega (arith, without_same a xs)
    ] refl

pub without_other : (q a : ℕ) (xs : List ℕ) → a ≢ q → times q (without a xs) ≡ times q xs
without_other q a [] ne = refl
without_other q a (x ∷ xs) ne =
    elim (x == a) as (λ b. (x == a) ≡ b → times q (cond (not b) (x ∷ without a xs) (without a xs)) ≡ times q (x ∷ xs)) [
      | true ↦ λ is. without_other q a xs ne ∙ sym (times_apart q x xs (λ e. ne (sym (eq_same x a is) ∙ e)))
      | false ↦ λ is. ap (λ (n : ℕ). cond (x == q) 1 0 + n) (without_other q a xs ne)
    ] refl

pub without_le : (q a : ℕ) (xs : List ℕ) → times q (without a xs) ≤ times q xs
without_le q a [] = omega arith
without_le q a (x ∷ xs) =
    elim (x == a) as (λ b. times q (cond (not b) (x ∷ without a xs) (without a xs)) ≤ times q (x ∷ xs)) [ true ↦ omega (arith, without_le q a xs) | false ↦ omega (arith, without_le q a xs) ]

pub times_append : (q : ℕ) (xs ys : List ℕ) → times q (xs ++ ys) ≡ times q xs + times q ys
times_append q [] ys = omega arith
times_append q (x ∷ xs) ys = ap (λ (n : ℕ). cond (x == q) 1 0 + n) (times_append q xs ys) ∙ omega arith

module _ {X : Type 0} where
  pub keys_removed : (k : ℕ) (m : List (ℕ × X)) → keys (removed k m) ≡ without k (keys m)
  keys_removed k [] = refl
  keys_removed k (e ∷ m) =
      elim (e.0 == k) as (λ b. keys (cond (not b) (e ∷ removed k m) (removed k m)) ≡ cond (not b) (e.0 ∷ without k (keys m)) (without k (keys m))) [
        | true ↦ keys_removed k m
        | false ↦ ap (λ (l : List ℕ). e.0 ∷ l) (keys_removed k m)
      ]

  pub has_keys : (k : ℕ) (m : List (ℕ × X)) → has k m ≡ among k (keys m)
  has_keys k [] = refl
  has_keys k (e ∷ m) =
      elim (e.0 == k) as (λ b. is_some (cond b (Some e.1) (at k m)) ≡ (b || among k (keys m))) [ true ↦ refl | false ↦ has_keys k m ]
