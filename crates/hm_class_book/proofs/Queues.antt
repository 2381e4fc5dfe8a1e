-- What stands in the two parts of a queue.
use Rattle.std.proofs.Common.{◌≡◌, ℕ, zero, suc, ◌-◌, ◌==◌, Bool, true, false, ◌||◌, List, [], ◌∷◌, ◌++◌, take, length, sym, ◌∙◌, ap, refl, arith}
use Rattle.hm_model.specs.Maps.{among}

or_assoc : (p q r : Bool) → (p || (q || r)) ≡ ((p || q) || r)
or_assoc true q r = refl
or_assoc false q r = refl

-- the first numbers of two parts are the first of the one, and as many of the other as are left
pub among_first : (n len : ℕ) (xs ys : List ℕ) → among n (take len (xs ++ ys)) ≡ (among n (take len xs) || among n (take (len - length xs) ys))
among_first n zero xs ys =
    let none : 0 - length xs ≡ 0 = omega arith in
    sym (ap (λ (k : ℕ). among n (take k ys)) none)
among_first n (suc len) [] ys =
    let all : suc len ≡ suc len - 0 = omega arith in
    ap (λ (k : ℕ). among n (take k ys)) all
among_first n (suc len) (x ∷ xs) ys =
    let left : len - length xs ≡ suc len - suc (length xs) = omega arith in
    ap (λ (b : Bool). (x == n) || b) (among_first n len xs ys)
    ∙ or_assoc (x == n) (among n (take len xs)) (among n (take (len - length xs) ys))
    ∙ ap (λ (k : ℕ). ((x == n) || among n (take len xs)) || among n (take k ys)) left
