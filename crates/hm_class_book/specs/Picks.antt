-- What a picking answers: nothing, where it is not allowed; else whether the slot is the first available one.
use Rattle.std.specs.Prelude.{◌≡◌, ◌↔◌, ℕ, Bool, Option, Some, None, IsTrue}
use Rattle.hm_model.specs.declared.entry.Choices.{Choices}
use Rattle.hm_sizes.specs.declared.shape.Shape.{Shape}
use Rattle.hm_sizes.specs.Shapes.{slab_of}
use Rattle.hm_class_rules.specs.State.{State}
use Rattle.hm_class_rules.specs.Steps.{opened}
use Rattle.hm_class_rules.specs.Drawn.{first_free}

-- with a slab opened, if one is said to be
abbrev pub with_opened : Shape → Choices → State → State
with_opened p c s = opened p c.opened c.canary s

-- a is the first available place of its slab from slot `from` on
abbrev pub IsFirst : Shape → State → Choices → ℕ → ℕ → Type 0
IsFirst p s c from a = first_free p (with_opened p c s) (slab_of p a) from ≡ Some a

-- where Allows holds, what was answered says whether a is the first, and the state is that; else nothing is answered
abbrev pub Judges : Type 0 → Type 0 → Type 0 → Option Bool → Type 0
Judges Holds First Becomes None = Holds → ⊥
Judges Holds First Becomes (Some first) = Holds × (IsTrue first ↔ First) × Becomes
