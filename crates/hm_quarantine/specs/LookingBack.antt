-- What a free releases, found by looking back through the frees before it.
use Rattle.std.specs.Prelude.{◌≡◌, ℕ, zero, suc, ◌==◌, List, [], ◌∷◌, slice_get, Option, Some, None, is_some, if◌then◌else◌}
use Rattle.std.specs.List.{cons_option}
use Rattle.hm_quarantine.specs.Quarantine.{Kept, IsArrayIndex, nothing_kept, let_go, kept_with}

-- a free of a slot, and the cell of the array that was drawn for it
pub record Free : Type 0 where
  pub slot : ℕ
  pub index : ℕ

-- the past is the list of the frees so far, the latest first; `array` and `ring` are the lengths of the two

-- the latest free at this cell
abbrev pub latest_at : ℕ → List Free → Option ℕ
latest_at index [] = None
latest_at index (free ∷ past) = if free.index == index then Some free.slot else latest_at index past

-- what leaves the array at a free: the latest earlier free at the same cell; with no array, this free itself
abbrev pub leaves_array : ℕ → List Free → Free → Option ℕ
leaves_array zero past free = Some free.slot
leaves_array (suc n) past free = latest_at free.index past

-- all that has left the array so far, the latest first
abbrev pub all_left : ℕ → List Free → List ℕ
all_left array [] = []
all_left array (free ∷ past) = cons_option (leaves_array array past free) (all_left array past)

-- what a free releases: where something left the array at it, that which stands `ring` cells before the last of all
-- that has left so far, if there is one
abbrev pub released : ℕ → ℕ → List Free → Free → Option ℕ
released array ring past free =
    if is_some (leaves_array array past free) then slice_get (all_left array (free ∷ past)) ring else None

-- each free stands at a cell of the array
abbrev pub AreIndices : ℕ → List Free → Type 0
AreIndices array [] = Unit {0}
AreIndices array (free ∷ past) = IsArrayIndex array free.index × AreIndices array past

-- what a quarantine keeps after these frees, one after another
abbrev pub kept_after : ℕ → ℕ → List Free → Kept
kept_after array ring [] = nothing_kept array ring
kept_after array ring (free ∷ past) = kept_with (kept_after array ring past) free.slot free.index

-- at each free the array and the ring let go what looking back finds
abbrev pub LooksBack : Type 0
LooksBack = (array ring : ℕ) (past : List Free) (free : Free) → AreIndices array (free ∷ past)
    → let_go (kept_after array ring past) free.slot free.index ≡ released array ring past free
