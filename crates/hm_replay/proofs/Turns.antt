-- What is read of each element of a list.
use Rattle.std.proofs.Common.{◌≡◌, ℕ, ◌<◌, List, [], ◌∷◌, length, map, slice_index_or, arith, refl, suc}

-- some element of a list, at an index within it
pub some_of : {X : Type 0} (xs : List X) (i : ℕ) → i < length xs → X
some_of [] i b = absurd (omega arith)
some_of (x ∷ xs) i b = x

-- where f of each element is g of the one at its index, all that is read is alike
pub read_alike : {X Z : Type 0} (f g : X → Z) (xs ys : List X) → length xs ≡ length ys
    → ((r : ℕ) (d : X) → r < length xs → f (slice_index_or xs r d) ≡ g (slice_index_or ys r d)) → map f xs ≡ map g ys
read_alike f g [] [] n e = refl
read_alike f g [] (y ∷ ys) n e = absurd (omega (arith, n))
read_alike f g (x ∷ xs) [] n e = absurd (omega (arith, n))
read_alike f g (x ∷ xs) (y ∷ ys) n e =
    let first : f x ≡ g y = e 0 x (omega arith) in
    let rest : map f xs ≡ map g ys = read_alike f g xs ys (omega (arith, n)) (λ r d l. e (suc r) d (omega (arith, l))) in
    λ i. first i ∷ rest i
