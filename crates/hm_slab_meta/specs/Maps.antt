-- Maps of 256 bits, bit i in word i / 64.
use Rattle.std.specs.Prelude.{◌≡◌, ℕ, ◌/◌, ◌%◌, ◌<◌, ◌≤◌, ◌==◌, Bool, true, false, slice_index}
use Rattle.std.specs.Int.{bit_at}
use Rattle.hm_slab_meta.specs.declared.bit_map.BitMap.{BitMap}

-- whether bit i is set
unfoldable pub has : BitMap → ℕ → Bool
has map i = bit_at (slice_index map.words (i / 64)) (i % 64) == 1

abbrev pub IsClear : BitMap → Type 0
IsClear map = (i : ℕ) → i < 256 → has map i ≡ false

-- each of these bits is set
abbrev pub AreAllIn : BitMap → ℕ → ℕ → Type 0
AreAllIn map from to = (i : ℕ) → from ≤ i → i < to → has map i ≡ true

-- this bit is clear, and all before it from `from` on are set
pub record IsFirstOut (map : BitMap) (from bit : ℕ) : Type 0 where
  pub at_least : from ≤ bit
  pub below : bit < 256
  pub clear : has map bit ≡ false
  pub before : AreAllIn map from bit
