-- What is appended piece by piece to what may be told.
use Rattle.std.proofs.Common.{ℕ, List, ◌++◌, Some, None, ◌∙◌, ap, append_assoc}
use Rattle.std.specs.declared.option.Option.{Option}
use Rattle.hm_outside.specs.Streams.{Put}

pub put_more : (a b c : Option (List ℕ)) (xs ys : List ℕ) → Put a b xs → Put b c ys → Put a c (xs ++ ys)
put_more None None None xs ys p q = tt
put_more None None (Some z) xs ys p q = q
put_more None (Some y) c xs ys p q = absurd p
put_more (Some x) None c xs ys p q = absurd p
put_more (Some x) (Some y) None xs ys p q = q
put_more (Some x) (Some y) (Some z) xs ys p q = q ∙ ap (λ (l : List ℕ). l ++ ys) p ∙ append_assoc x xs ys
