-- Bytes are taken piece by piece.
use Rattle.std.proofs.Common.{◌≡◌, ℕ, List, ◌++◌, Some, None, ◌∙◌, ap, append_assoc}
use Rattle.std.specs.declared.option.Option.{Option}
use Rattle.hm_outside.specs.Streams.{Taken}

pub taken_more : (a b c : Option (List ℕ)) (xs ys : List ℕ) → Taken a b xs → Taken b c ys → Taken a c (xs ++ ys)
taken_more None None None xs ys p q = tt
taken_more None None (Some z) xs ys p q = q
taken_more None (Some y) c xs ys p q = absurd p
taken_more (Some x) None c xs ys p q = absurd p
taken_more (Some x) (Some y) None xs ys p q = q
taken_more (Some x) (Some y) (Some z) xs ys p q = p ∙ ap (λ (l : List ℕ). xs ++ l) q ∙ back xs ys z
  where
    back : (xs ys z : List ℕ) → xs ++ (ys ++ z) ≡ (xs ++ ys) ++ z
    back xs ys z = rw append_assoc
