-- The rule: what is shown is what some list of changes makes, and what each seat knows is a beginning of it.
use Rattle.std.specs.Prelude.{◌≡◌, ℕ, List, ◌++◌}
use mathlib.Core.Option.{some}
use lib.ListN.{get_elem?}
use Rattle.hm_model.specs.declared.change.SizeChange.{SizeChange}
use Rattle.hm_snapshot.specs.Shown.{Shown, shown_after}

-- the list goes on from its beginning
abbrev pub StartsWith : List SizeChange → List SizeChange → Type 0
StartsWith list beginning = (more : List SizeChange) × (list ≡ beginning ++ more)

-- what a seat knows
abbrev pub At : List (List SizeChange) → ℕ → List SizeChange → Type 0
At views j v = get_elem? views j ≡ some v

-- some list of changes is shown, and begins with what each seat knows
pub record Grows (x : Shown) (views : List (List SizeChange)) : Type 0 where
  pub list : List SizeChange
  pub shows : x ≡ shown_after list
  pub each : (j : ℕ) (v : List SizeChange) → At views j v → StartsWith list v
