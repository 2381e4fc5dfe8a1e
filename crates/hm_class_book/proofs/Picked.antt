-- What a picking is judged by.
use Rattle.std.proofs.Common.{◌≡◌, ℕ, Bool, Option}
use Rattle.hm_model.specs.declared.entry.Choices.{Choices}
use Rattle.hm_sizes.specs.declared.shape.Shape.{Shape}
use Rattle.hm_class_rules.specs.State.{State}
use Rattle.hm_class_rules.specs.Rules.{Picks}
use Rattle.hm_class_book.specs.Picks.{with_opened, IsFirst, Judges}

abbrev pub PickJudges : Shape → State → Choices → ℕ → ℕ → State → Option Bool → Type 0
PickJudges p s c a from now o = Judges (Picks p s (with_opened p c s) c a) (IsFirst p s c from a) (now ≡ with_opened p c s) o
