-- What one of the two copies shows.
use Rattle.std.specs.Prelude.{ℕ, ◌+◌, ◌<◌, ◌^◌, List, [], fold}
use Rattle.std.specs.List.{All}
use Rattle.std.specs.Map.{values_of}
use Rattle.hm_model.specs.declared.change.SizeChange.{SizeChange}
use Rattle.hm_model.specs.Changes.{changed}

-- the map of sizes, and how many changes it has taken in
pub record Shown : Type 0 where
  pub map : List (ℕ × ℕ)
  pub count : ℕ

abbrev pub nothing : Shown
nothing = record { map = []; count = 0 }

abbrev pub absorbed : Shown → SizeChange → Shown
absorbed x change = record { map = changed x.map change; count = x.count + 1 }

-- what is shown after the changes, in order
abbrev pub shown_after : List SizeChange → Shown
shown_after changes = fold absorbed nothing changes

-- each size is below 2 ^ 64
abbrev pub AreSmall : List (ℕ × ℕ) → Type 0
AreSmall es = All (λ n. n < 2 ^ 64) (values_of es)
