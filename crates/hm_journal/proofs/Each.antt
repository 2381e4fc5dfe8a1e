-- What holds of each element of a list by recursion, over what is known of `All`.
use Rattle.std.proofs.Common.{List, ◌++◌}
use Rattle.std.specs.List.{AllByRecursion}
use Rattle.std.proofs.lemmas.List.Elements.{All-append, All-weaker, All-from_recursion as from, recursion_from_All as to}

module _ {X : Type 0} (P : X → Type 0) where
  pub each_append : (xs ys : List X) → AllByRecursion P xs → AllByRecursion P ys → AllByRecursion P (xs ++ ys)
  each_append xs ys h g = to P (xs ++ ys) (All-append P xs ys (from P xs h) (from P ys g))

  pub each_by : (Q : X → Type 0) (xs : List X) → ((x : X) → P x → Q x) → AllByRecursion P xs → AllByRecursion Q xs
  each_by Q xs f h = to Q xs (All-weaker P Q f xs (from P xs h))
