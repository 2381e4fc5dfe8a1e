-- A space of addresses, as callers see it.
use Rattle.std.specs.Prelude.{◌≡◌, ℕ, ◌+◌, ◌%◌, ◌≤◌, ◌⊎◌, ◌↔◌, List}
use Rattle.hm_space.specs.declared.free_range.FreeRange.{FreeRange}
use Rattle.hm_space.specs.Ranges.{IsWithin, IsInSome, AreApart}

pub record FreeSpace : Type 0 where
  -- the free ranges, lowest first
  pub ranges : List FreeRange
  -- how many more ranges were taken than put back
  pub out : ℕ
  -- the room for further free ranges
  pub spare : ℕ

-- no free range is empty, no two touch, and there is room for each range that is out
pub record IsSpace (space : FreeSpace) : Type 0 where
  pub apart : AreApart 0 space.ranges
  pub room : space.out ≤ space.spare

abbrev pub IsFree : FreeSpace → ℕ → Type 0
IsFree space a = IsInSome space.ranges a

-- each of so many addresses from `at` on is free
abbrev pub IsFreeRange : FreeSpace → ℕ → ℕ → Type 0
IsFreeRange space at len = (a : ℕ) → IsWithin at len a → IsFree space a

-- none of them is free
abbrev pub MeetsNoFree : FreeSpace → ℕ → ℕ → Type 0
MeetsNoFree space at len = (a : ℕ) → IsWithin at len a → IsFree space a → ⊥

-- so many addresses from `at` on are free, and `front` past `at` is a multiple of `align`
pub record IsFit (space : FreeSpace) (len align front at : ℕ) : Type 0 where
  pub free : IsFreeRange space at len
  pub aligned : (at + front) % align ≡ 0

-- the lowest fit
pub record IsLowestFit (space : FreeSpace) (len align front at : ℕ) : Type 0 where
  pub fits : IsFit space len align front at
  pub lowest : (other : ℕ) → IsFit space len align front other → at ≤ other

-- these addresses, and no others, are no longer free
abbrev pub TakesRange : FreeSpace → FreeSpace → ℕ → ℕ → Type 0
TakesRange old new at len = (a : ℕ) → IsFree new a ↔ (IsFree old a × (IsWithin at len a → ⊥))

-- these addresses, and no others, are free as well
abbrev pub GivesRange : FreeSpace → FreeSpace → ℕ → ℕ → Type 0
GivesRange old new at len = (a : ℕ) → IsFree new a ↔ (IsFree old a ⊎ IsWithin at len a)
