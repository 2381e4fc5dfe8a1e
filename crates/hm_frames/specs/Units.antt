-- What the units of a run keep: each the byte that stands everywhere in it, or bytes of its own.
use Rattle.std.specs.Prelude.{◌≡◌, ℕ, ◌*◌, ◌/◌, List, map, length, get_or, Bool, true, false, Option, None, is_some}
use Rattle.std.specs.List.{range_with_len}
use Rattle.hm_frames.specs.declared.unit.UnitBytes.{UnitBytes}
use Rattle.hm_frames.specs.declared.unit.UnitBytes.TheVariants.{Same, Own}
use Rattle.hm_frames.specs.RawCells.{byte_of}

-- the byte at a cell of a unit
abbrev pub byte_in : UnitBytes → Option ℕ → ℕ
byte_in (Same byte) raw_cell = byte
byte_in Own raw_cell = byte_of raw_cell

-- the unit in which a cell lies
abbrev pub unit_of : List UnitBytes → ℕ → UnitBytes
unit_of units i = get_or units (i / 512) (Same 0)

abbrev pub byte_at : List UnitBytes → List (Option ℕ) → ℕ → ℕ
byte_at units raw_cells i = byte_in (unit_of units i) (get_or raw_cells i None)

-- the bytes of all raw_cells
abbrev pub bytes_kept : List UnitBytes → List (Option ℕ) → List ℕ
bytes_kept units raw_cells = map (byte_at units raw_cells) (range_with_len 0 (length raw_cells))

-- each cell of a unit with bytes of its own has one
pub record AreKept (units : List UnitBytes) (raw_cells : List (Option ℕ)) : Type 0 where
  pub count : length raw_cells ≡ 512 * length units
  pub own : (i : ℕ) → unit_of units i ≡ Own → is_some (get_or raw_cells i None) ≡ true

-- a unit has bytes of its own
abbrev pub is_own : UnitBytes → Bool
is_own (Same byte) = false
is_own Own = true

-- whether each unit has
abbrev pub own_units : List UnitBytes → List Bool
own_units units = map is_own units
