-- The state of the large region after some entries: its blocks, and where they and their guards lie.
use Rattle.std.specs.Prelude.{◌≡◌, ℕ, ◌+◌, ◌*◌, ◌≤◌, nat_lt, nat_le, ◌&&◌, not, Bool, true, if◌then◌else◌, List, [], ◌∷◌, ⊤}
use Rattle.hm_quarantine.specs.LookingBack.{Free}
use Rattle.hm_sizes.specs.Homes.{large_start}
use Rattle.hm_sizes.specs.Sizes.{raised, large_size}
use Rattle.hm_sizes.specs.declared.config.Config.{Config}

-- a block: the size that was asked for, its size, the pages of its guard on each side, whether a page fault occurred as
-- it was to be taken back, and its bytes
pub record Block : Type 0 where
  pub asked : ℕ
  pub size : ℕ
  pub guard : ℕ
  pub failed : Bool
  pub bytes : List ℕ

-- blocks by their addresses
abbrev pub Blocks : Type 0
Blocks = List (ℕ × Block)

-- lists are newest first
pub record State : Type 0 where
  -- live blocks, and those in quarantine as they were when they were freed
  pub live : Blocks
  pub quarantined : Blocks
  -- the frees of blocks that went into quarantine: the address, and the index in the array that the word draws
  pub frees : List Free
  -- how many words were drawn
  pub words : ℕ
  -- the count of page faults
  pub faults : ℕ

abbrev pub start : State
start = record { live = []; quarantined = []; frees = []; words = 0; faults = 0 }

-- ---- sizes
-- the size of the block for a request
abbrev pub size_for : ℕ → ℕ
size_for asked = large_size (raised asked)

-- a freed block below this size stays in quarantine
abbrev pub quarantined_below : ℕ
quarantined_below = 33554432

abbrev pub is_quarantined : Block → Bool
is_quarantined block = nat_lt block.size quarantined_below

-- the lengths of the quarantine's array and ring
abbrev pub array_length : ℕ
array_length = 256

abbrev pub ring_length : ℕ
ring_length = 1024

-- ---- taken addresses
-- the large space
abbrev pub in_space : Config → ℕ → Bool
in_space c q = nat_le large_start q && nat_lt q (large_start + c.large_space)

-- the block of this size at a, or a guard of it, has the address q
abbrev pub spans : ℕ → ℕ → ℕ → ℕ → Bool
spans a size guard q = nat_le a (q + 4096 * guard) && nat_lt q (a + size + 4096 * guard)

abbrev pub covers : ℕ → ℕ × Block → Bool
covers q entry = spans entry.0 entry.1.size entry.1.guard q

-- how many blocks pass the test
abbrev pub how_many : (ℕ × Block → Bool) → Blocks → ℕ
how_many test [] = 0
how_many test (e ∷ blocks) = (if test e then 1 else 0) + how_many test blocks

-- how many of these blocks, with their guards, have the address q
abbrev pub covered : ℕ → Blocks → ℕ
covered q blocks = how_many (covers q) blocks

-- how many live blocks and blocks in quarantine, with their guards, have the address q
abbrev pub taken : State → ℕ → ℕ
taken s q = covered q s.live + covered q s.quarantined

-- q is in the large space, and in no block or guard
abbrev pub IsOpen : Config → State → ℕ → Type 0
IsOpen c s q = (in_space c q ≡ true) × (taken s q ≡ 0)

-- each block has a guard
abbrev pub AreGuarded : Blocks → Type 0
AreGuarded [] = ⊤
AreGuarded (e ∷ blocks) = (1 ≤ e.1.guard) × AreGuarded blocks

-- ---- entries that are kept for frees
-- the entry that is kept for the free of a block is not used up
abbrev pub is_owed : ℕ × Block → Bool
is_owed entry = not entry.1.failed

-- how many blocks have such an entry
abbrev pub owed : Blocks → ℕ
owed blocks = how_many is_owed blocks
