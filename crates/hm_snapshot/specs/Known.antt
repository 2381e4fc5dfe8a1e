-- What contracts see of a writer and of a reader, and what a step tells.
use Rattle.std.specs.Prelude.{◌≡◌, ◌⊎◌, ◌+◌, ◌^◌, ◌-◌, ℕ, List}
use Rattle.hm_model.specs.declared.change.SizeChange.{SizeChange}
use Rattle.hm_snapshot.specs.Rule.{StartsWith}
use Rattle.hm_snapshot.specs.Shown.{Shown, shown_after}

-- the changes that are published, those that wait for it, and how many places for readers have had none yet
pub record Published : Type 0 where
  pub list : List SizeChange
  pub waiting : List SizeChange
  pub unused : ℕ

-- the list that the last read saw, or that the reader was made with, and how many entries were refused
pub record Seen : Type 0 where
  pub read : List SizeChange
  pub faults : ℕ

-- a read finds what a list of changes makes, which goes on from the one known
abbrev pub found : List SizeChange → Shown → Shown → List SizeChange → Type 0
found v x y w = (x ≡ shown_after w) × StartsWith w v

-- one more entry was refused, or they are no longer counted
abbrev pub HasRisen : ℕ → ℕ → Type 0
HasRisen before after = (after ≡ before + 1) ⊎ ((before ≡ 2 ^ 64 - 1) × (after ≡ before))
