-- Lists of caller numbers.
use Rattle.std.proofs.Common.{◌≡◌, ◌≢◌, ℕ, ◌+◌, ◌<◌, ◌≤◌, true, false, eqb, cond, List, [], ◌∷◌, length, refl, ap, ◌∙◌, arith, eq-eqb, ne_eqb}
use Rattle.std.proofs.lemmas.Bool.{both_ways, false_from_ne_true}
use Rattle.std.proofs.lemmas.Bool.Decides.{nat_tests}
use Rattle.std.specs.List.{IsDistinct, AllByRecursion}
use Rattle.std.proofs.lemmas.Map.Steps.{length-le_from_distinct_below}
use mathlib.Core.Logic.{dite}
use native.Mathlib.Decide.{ℕ_discrete}
use Rattle.hm_turn.specs.Callers.{is_among, AreDistinct}

-- the numbers without the first that is c
abbrev pub without : ℕ → List ℕ → List ℕ
without c [] = []
without c (x ∷ xs) = cond (eqb c x) xs (x ∷ without c xs)

pub in_without : (x c : ℕ) (xs : List ℕ) → x ≢ c → is_among x xs ≡ true → is_among x (without c xs) ≡ true
in_without x c [] n h = h
in_without x c (y ∷ ys) n h = grind (arith, nat_tests, in_without x c ys n)

pub in_before : (x c : ℕ) (xs : List ℕ) → is_among x (without c xs) ≡ true → is_among x xs ≡ true
in_before x c [] h = h
in_before x c (y ∷ ys) h = grind (arith, nat_tests, in_before x c ys)

pub length-without : (c : ℕ) (xs : List ℕ) → is_among c xs ≡ true → length (without c xs) + 1 ≡ length xs
length-without c [] h = cc
length-without c (y ∷ ys) h = grind (arith, nat_tests, length-without c ys)

all_apart : (y : ℕ) (ys : List ℕ) → is_among y ys ≡ false → AllByRecursion (λ z. eqb y z ≡ false) ys
all_apart y [] h = tt
all_apart y (z ∷ zs) h = dite (ℕ_discrete y z) (λ e. absurd (both_ways (is_among y (z ∷ zs)) h (rw (eq-eqb y z e) refl)))
    (λ n. (ne_eqb y z n, all_apart y zs (rw (ne_eqb y z n) at h)))

std_distinct : (xs : List ℕ) → AreDistinct xs → IsDistinct eqb xs
unfolding IsDistinct
std_distinct [] d = tt
std_distinct (x ∷ xs) d = (all_apart x xs d.0, std_distinct xs d.1)

-- numbers below n that differ are at most n
pub distinct_below : (xs : List ℕ) (n : ℕ) → AreDistinct xs → ((c : ℕ) → is_among c xs ≡ true → c < n) → length xs ≤ n
distinct_below xs n d below = length-le_from_distinct_below xs n (std_distinct xs d) below

pub gone_without : (c : ℕ) (xs : List ℕ) → AreDistinct xs → is_among c (without c xs) ≡ false
gone_without c [] d = refl
gone_without c (y ∷ ys) d = dite (ℕ_discrete c y)
    (λ e. rw (eq-eqb c y e) (ap (λ n. is_among n ys) e ∙ d.0))
    (λ n. rw (ne_eqb c y n) (rw (ne_eqb c y n) (gone_without c ys d.1)))

kept_out : (x c : ℕ) (xs : List ℕ) → is_among x xs ≡ false → is_among x (without c xs) ≡ false
kept_out x c xs h = false_from_ne_true (is_among x (without c xs)) (λ p. both_ways (is_among x xs) h (in_before x c xs p))

pub distinct-without : (c : ℕ) (xs : List ℕ) → AreDistinct xs → AreDistinct (without c xs)
distinct-without c [] d = tt
distinct-without c (y ∷ ys) d = dite (ℕ_discrete c y)
    (λ e. rw (eq-eqb c y e) d.1)
    (λ n. rw (ne_eqb c y n) (kept_out y c ys d.0, distinct-without c ys d.1))
