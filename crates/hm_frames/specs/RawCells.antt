-- The raw cells of a block, each with a byte or with none.
use Rattle.std.specs.Prelude.{◌≡◌, ℕ, ◌+◌, ◌≤◌, List, ◌++◌, map, length, take, drop, Option, Some, None}

-- a cell that was not written counts as zero
abbrev pub byte_of : Option ℕ → ℕ
byte_of None = 0
byte_of (Some byte) = byte

abbrev pub bytes_of : List (Option ℕ) → List ℕ
bytes_of raw_cells = map byte_of raw_cells

-- there are so many raw_cells from there on, and each has a byte
pub record IsFilled (raw_cells : List (Option ℕ)) (from len : ℕ) : Type 0 where
  pub within : from + len ≤ length raw_cells
  pub all : take len (drop from raw_cells) ≡ map Some (take len (drop from (bytes_of raw_cells)))

-- the raw_cells with these bytes in the stead of so many from there on
abbrev pub with_raw_cells : List (Option ℕ) → ℕ → ℕ → List ℕ → List (Option ℕ)
with_raw_cells raw_cells from len w = take from raw_cells ++ (map Some w ++ drop (from + len) raw_cells)
