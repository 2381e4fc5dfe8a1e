-- What stands in lists of numbers.
use Rattle.std.proofs.Common.{◌≡◌, ◌≢◌, ℕ, suc, ◌+◌, ◌⊎◌, inl, inr, true, false, List, [], ◌∷◌, ◌++◌, length, refl, sym, ap, subst, ◌∙◌, arith}
use Rattle.std.proofs.lemmas.Bool.{cases_eq, both_ways, eq-eqb, ne_eqb, eqb-true, cond-true, cond-false, or_left, or_cases, not_from_true, not_from_false}
use Rattle.std.specs.Prelude.{◌==◌, ◌||◌, not}
use Rattle.hm_base.specs.Members.{among, without, AreDistinct}

pub among_head : (n m : ℕ) (xs : List ℕ) → m ≡ n → among n (m ∷ xs) ≡ true
among_head n m xs e = or_left (m == n) (among n xs) (eq-eqb m n e)

pub among_tail : (n m : ℕ) (xs : List ℕ) → m ≢ n → among n (m ∷ xs) ≡ among n xs
among_tail n m xs differs = ap (λ b. b || among n xs) (ne_eqb m n differs)

pub among_cases : (n m : ℕ) (xs : List ℕ) → among n (m ∷ xs) ≡ true → (m ≡ n) ⊎ (among n xs ≡ true)
among_cases n m xs is =
    elim (or_cases (m == n) (among n xs) is) as (λ _. (m ≡ n) ⊎ (among n xs ≡ true)) [ inl e ↦ inl (eqb-true m n e) | inr e ↦ inr e ]

pub among_not : (n m : ℕ) (xs : List ℕ) → among m xs ≡ false → among n xs ≡ true → m ≢ n
among_not n m xs out is e = both_ways (among m xs) out (ap (λ k. among k xs) e ∙ is)

pub without_skip : (x m : ℕ) (xs : List ℕ) → m ≡ x → without x (m ∷ xs) ≡ without x xs
without_skip x m xs e = cond-false (not (m == x)) (m ∷ without x xs) (without x xs) (not_from_true (m == x) (eq-eqb m x e))

pub without_keep : (x m : ℕ) (xs : List ℕ) → m ≢ x → without x (m ∷ xs) ≡ m ∷ without x xs
without_keep x m xs n = cond-true (not (m == x)) (m ∷ without x xs) (without x xs) (not_from_false (m == x) (ne_eqb m x n))

pub without_none : (x : ℕ) (xs : List ℕ) → among x xs ≡ false → without x xs ≡ xs
without_none x [] out = refl
without_none x (m ∷ xs) out =
    elim (cases_eq m x) as (λ _. without x (m ∷ xs) ≡ m ∷ xs) [
      | inl e ↦ absurd (both_ways (among x (m ∷ xs)) out (among_head x m xs e))
      | inr n ↦ without_keep x m xs n ∙ ap (λ (l : List ℕ). m ∷ l) (without_none x xs (sym (among_tail x m xs n) ∙ out))
    ]

pub among-without_same : (x : ℕ) (xs : List ℕ) → among x (without x xs) ≡ false
among-without_same x [] = refl
among-without_same x (m ∷ xs) =
    elim (cases_eq m x) as (λ _. among x (without x (m ∷ xs)) ≡ false) [
      | inl e ↦ ap (among x) (without_skip x m xs e) ∙ among-without_same x xs
      | inr n ↦ ap (among x) (without_keep x m xs n) ∙ among_tail x m (without x xs) n ∙ among-without_same x xs
    ]

pub among-without_other : (x y : ℕ) (xs : List ℕ) → y ≢ x → among y (without x xs) ≡ among y xs
among-without_other x y [] differs = refl
among-without_other x y (m ∷ xs) differs =
    elim (cases_eq m x) as (λ _. among y (without x (m ∷ xs)) ≡ among y (m ∷ xs)) [
      | inl e ↦
          ap (among y) (without_skip x m xs e) ∙ among-without_other x y xs differs
          ∙ sym (among_tail y m xs (λ f. differs (sym f ∙ e)))
      | inr n ↦
          ap (among y) (without_keep x m xs n)
          ∙ ap (λ b. (m == y) || b) (among-without_other x y xs differs)
    ]

pub length-without : (x : ℕ) (xs : List ℕ) → AreDistinct xs → among x xs ≡ true → length (without x xs) + 1 ≡ length xs
length-without x [] distinct is = absurd (both_ways false refl is)
length-without x (m ∷ xs) distinct is =
    elim (cases_eq m x) as (λ _. length (without x (m ∷ xs)) + 1 ≡ suc (length xs)) [
      | inl e ↦
          let out : without x xs ≡ xs = without_none x xs (ap (λ k. among k xs) (sym e) ∙ distinct.0) in
          let same : length (without x (m ∷ xs)) ≡ length xs = ap length (without_skip x m xs e ∙ out) in
          omega (arith, same)
      | inr n ↦
          let rest = length-without x xs distinct.1 (sym (among_tail x m xs n) ∙ is) in
          let same : length (without x (m ∷ xs)) ≡ suc (length (without x xs)) = ap length (without_keep x m xs n) in
          omega (arith, rest, same)
    ]

pub distinct-without : (x : ℕ) (xs : List ℕ) → AreDistinct xs → AreDistinct (without x xs)
distinct-without x [] distinct = tt
distinct-without x (m ∷ xs) distinct =
    elim (cases_eq m x) as (λ _. AreDistinct (without x (m ∷ xs))) [
      | inl e ↦ subst AreDistinct (sym (without_skip x m xs e)) (distinct-without x xs distinct.1)
      | inr n ↦
          subst AreDistinct (sym (without_keep x m xs n))
          (among-without_other x m xs n ∙ distinct.0, distinct-without x xs distinct.1)
    ]

-- ---- one more at the end
pub among-last : (n x : ℕ) (xs : List ℕ) → among n xs ≡ true → among n (xs ++ x ∷ []) ≡ true
among-last n x [] is = absurd (both_ways false refl is)
among-last n x (m ∷ xs) is =
    elim (cases_eq m n) as (λ _. among n ((m ∷ xs) ++ x ∷ []) ≡ true) [
      | inl e ↦ among_head n m (xs ++ x ∷ []) e
      | inr d ↦ among_tail n m (xs ++ x ∷ []) d ∙ among-last n x xs (sym (among_tail n m xs d) ∙ is)
    ]

pub among-last_itself : (x : ℕ) (xs : List ℕ) → among x (xs ++ x ∷ []) ≡ true
among-last_itself x [] = among_head x x [] refl
among-last_itself x (m ∷ xs) =
    elim (cases_eq m x) as (λ _. among x ((m ∷ xs) ++ x ∷ []) ≡ true) [
      | inl e ↦ among_head x m (xs ++ x ∷ []) e
      | inr d ↦ among_tail x m (xs ++ x ∷ []) d ∙ among-last_itself x xs
    ]

pub among-last_other : (n x : ℕ) (xs : List ℕ) → x ≢ n → among n (xs ++ x ∷ []) ≡ among n xs
among-last_other n x [] differs = among_tail n x [] differs
among-last_other n x (m ∷ xs) differs = ap (λ b. (m == n) || b) (among-last_other n x xs differs)

pub distinct-last : (x : ℕ) (xs : List ℕ) → AreDistinct xs → among x xs ≡ false → AreDistinct (xs ++ x ∷ [])
distinct-last x [] distinct out = (refl, tt)
distinct-last x (m ∷ xs) distinct out =
    let differs : x ≢ m = λ e. both_ways (among x (m ∷ xs)) out (among_head x m xs (sym e)) in
    (among-last_other m x xs differs ∙ distinct.0, distinct-last x xs distinct.1 (sym (among_tail x m xs (λ e. differs (sym e))) ∙ out))
