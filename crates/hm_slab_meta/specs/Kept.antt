-- What the four maps of a slab say of its slots.
use Rattle.std.specs.Prelude.{◌≡◌, ℕ, ◌<◌, ◌≤◌, Bool, true, false, List, map, if◌then◌else◌}
use Rattle.std.specs.List.{range_with_len}
use Rattle.hm_slab_meta.specs.declared.bit_map.BitMap.{BitMap}
use Rattle.hm_slab_meta.specs.Maps.{has}
use Rattle.hm_slab_meta.specs.Uses.{SlotUse, Never, Free, Live, Quarantined, Condemned}

-- the use of a slot by its four bits
abbrev pub use_of : Bool → Bool → Bool → Bool → SlotUse
use_of live quarantined condemned given =
    if live then Live else if quarantined then Quarantined else if condemned then Condemned given else if given then Free else Never

abbrev pub use_in : BitMap → BitMap → BitMap → BitMap → ℕ → SlotUse
use_in live quarantined condemned given i = use_of (has live i) (has quarantined i) (has condemned i) (has given i)

abbrev pub uses_of : BitMap → BitMap → BitMap → BitMap → ℕ → List SlotUse
uses_of live quarantined condemned given slots = map (use_in live quarantined condemned given) (range_with_len 0 slots)

-- at most one of the three is set, and a live or quarantined slot was given
abbrev pub fits : Bool → Bool → Bool → Bool → Bool
fits true quarantined condemned given = if quarantined then false else if condemned then false else given
fits false true condemned given = if condemned then false else given
fits false false condemned given = true

-- no bit past the last slot is set
pub record IsKept (live quarantined condemned given : BitMap) (slots : ℕ) : Type 0 where
  pub some : 1 ≤ slots
  pub few : slots ≤ 256
  pub each : (i : ℕ) → i < 256 → fits (has live i) (has quarantined i) (has condemned i) (has given i) ≡ true
  pub past : (i : ℕ) → slots ≤ i → i < 256 → use_in live quarantined condemned given i ≡ Never
