-- The bytes of the large region.
use Rattle.std.specs.Prelude.{◌≡◌, ℕ, zero, suc, ◌+◌, ◌-◌, ◌≤◌, nat_lt, nat_le, ◌&&◌, if◌then◌else◌, List, [], ◌∷◌, map, length, slice_get, Option, Some, None}
use Rattle.hm_model.specs.Maps.{at}
use Rattle.hm_model.specs.Overlaid.{overlaid}
use Rattle.hm_model.specs.Ranges as ranges
use Rattle.hm_large_rules.specs.State.{Block, Blocks, State}

-- ---- reading
-- the byte at an address: none where it is not accessible
abbrev pub byte_at : Blocks → ℕ → Option ℕ
byte_at [] q = None
byte_at (e ∷ blocks) q = if nat_le e.0 q && nat_lt q (e.0 + length e.1.bytes) then slice_get e.1.bytes (q - e.0)
    else byte_at blocks q

-- the first of len addresses from a on that is not accessible
abbrev pub first_trap : Blocks → ℕ → ℕ → Option ℕ
first_trap blocks a len = ranges.first_trap (byte_at blocks) a len

-- len bytes from a on
abbrev pub bytes_read : Blocks → ℕ → ℕ → List ℕ
bytes_read blocks a len = ranges.bytes_read (byte_at blocks) a len

-- no live block has all of these addresses
abbrev pub HeldByNone : Blocks → ℕ → ℕ → Type 0
HeldByNone live q len = (a : ℕ) (x : Block) → at a live ≡ Some x → a ≤ q → q + len ≤ a + x.size → ⊥

-- a live block has so many bytes from q on: none has q where there are none
abbrev pub IsLeft : Blocks → ℕ → ℕ → Type 0
IsLeft live q zero = byte_at live q ≡ None
IsLeft live q (suc left) = (a : ℕ) × (x : Block) × (at a live ≡ Some x) × (a ≤ q) × (q + suc left ≡ a + x.size)

-- ---- writing
-- w is written from a on, where the block has bytes
abbrev pub overlay : ℕ → List ℕ → ℕ × Block → ℕ × Block
overlay a w e = (e.0, record e.1 { bytes = overlaid a w e.0 e.1.bytes })

abbrev pub overlaid_blocks : ℕ → List ℕ → Blocks → Blocks
overlaid_blocks a w blocks = map (overlay a w) blocks

-- w is written from a on, where there are bytes
abbrev pub write : ℕ → List ℕ → State → State
write a w s = record s { live = overlaid_blocks a w s.live }
