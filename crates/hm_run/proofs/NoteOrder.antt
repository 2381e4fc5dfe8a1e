-- The notes of rounds stand in the order of a report.
use Rattle.std.proofs.Common.{◌≡◌, ℕ, ◌+◌, true, List, [], ◌∷◌, refl, arith}
use Rattle.std.proofs.lemmas.Bool.{lt-ltb, and_from}
use Rattle.hm_report.specs.Findings.{notes_ascend}
use Rattle.hm_trace.specs.Views.{RoundView}
use Rattle.hm_run.specs.Endings.{notes_in}

pub in_order : (number : ℕ) (rounds : List RoundView) → notes_ascend (notes_in number rounds) ≡ true
in_order number [] = refl
in_order number (r ∷ []) = refl
in_order number (r ∷ s ∷ rounds) = and_from _ _ (lt-ltb number (number + 1) (omega arith)) (in_order (number + 1) (s ∷ rounds))
