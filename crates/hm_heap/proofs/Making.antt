-- Pages are made for one region after another.
use Rattle.std.proofs.Common.{ℕ, suc, zero, List, ◌∷◌, [], ◌++◌, ◌+◌, ◌≡◌, ◌∙◌, ap, arith}
use Rattle.std.specs.List.{range_with_len}

one_more_from : (from n : ℕ) → range_with_len from n ++ ((from + n) ∷ []) ≡ range_with_len from (suc n)
one_more_from from zero = ap (λ (k : ℕ). k ∷ []) {x = from + 0} {y = from} (omega arith)
one_more_from from (suc n) =
    ap (λ (k : ℕ). from ∷ (range_with_len (from + 1) n ++ (k ∷ []))) {x = from + suc n} {y = from + 1 + n} (omega arith)
    ∙ ap (λ (l : List ℕ). from ∷ l) (one_more_from (from + 1) n)

-- the numbers below one more
pub one_more : (n : ℕ) → range_with_len 0 n ++ (n ∷ []) ≡ range_with_len 0 (n + 1)
one_more n =
    ap (λ (k : ℕ). range_with_len 0 n ++ (k ∷ [])) {x = n} {y = 0 + n} (omega arith)
    ∙ one_more_from 0 n ∙ ap (λ (k : ℕ). range_with_len 0 k) {x = suc n} {y = n + 1} (omega arith)
