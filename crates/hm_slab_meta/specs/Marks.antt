-- A map of the slots that are not available.
use Rattle.std.specs.Prelude.{◌≡◌, ℕ, ◌<◌, not, List, slice_index_or}
use Rattle.hm_slab_meta.specs.declared.bit_map.BitMap.{BitMap}
use Rattle.hm_slab_meta.specs.Maps.{has}
use Rattle.hm_slab_meta.specs.Uses.{SlotUse, Never, is_available}

-- a bit is set where the slot is not available; past the last slot none is
abbrev pub Marks : BitMap → List SlotUse → Type 0
Marks taken slots = (i : ℕ) → i < 256 → has taken i ≡ not (is_available (slice_index_or slots i Never))
