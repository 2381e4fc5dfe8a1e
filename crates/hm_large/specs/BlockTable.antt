-- The table of blocks beside the starts of those that are live, and how it changes.
use Rattle.std.specs.Prelude.{◌≡◌, ◌≤◌, ℕ, ◌+◌, ◌==◌, false, if◌then◌else◌, Option, Some, None, IsSome, MatchOption}
use Rattle.std.specs.Ordering.{nat_cmp}
use Rattle.std.specs.BTreeMap as tree
use Rattle.std.specs.FinMap as map
use Rattle.hm_region_table.specs.declared.entry.Block.{Block as KeptBlock}
use Rattle.hm_region_table.specs.Table.{Blocks, Table}

-- the size of a block that is live
abbrev pub live_size : Option KeptBlock → Option ℕ
live_size None = None
live_size (Some b) = if b.quarantined then None else Some b.size

-- the starts and sizes are those of the live blocks
abbrev pub AreLive : Blocks → tree.BTreeMap ℕ ℕ → Type 0
AreLive blocks live = (a : ℕ) → tree.get nat_cmp live a ≡ live_size (map.get blocks a)

-- the table is another at this address alone
abbrev pub Updates : Table → Table → ℕ → Option KeptBlock → Type 0
Updates old new a block = (q : ℕ) → map.get new.blocks q ≡ (if a == q then block else map.get old.blocks q)

-- a live block can be put in at the address: none begins there, and there is room for it
pub record CanAdd (table : Table) (a : ℕ) (block : KeptBlock) : Type 0 where
  pub fresh : map.get table.blocks a ≡ None
  pub room : 1 ≤ table.spare
  pub live : block.quarantined ≡ false

-- the block was put in, and took room
pub record Adds (old new : Table) (a : ℕ) (block : KeptBlock) : Type 0 where
  pub put : Updates old new a (Some block)
  pub spare : new.spare + 1 ≡ old.spare

-- the last start at or below the address, with its size
pub record IsLastStart (size_at : ℕ → Option ℕ) (addr : ℕ) (found : ℕ × ℕ) : Type 0 where
  pub below : found.0 ≤ addr
  pub there : size_at found.0 ≡ Some found.1
  pub last : (q : ℕ) → q ≤ addr → IsSome (size_at q) → q ≤ found.0

-- the last start at or below the address is found, or that there is none
abbrev pub FindsLast : (ℕ → Option ℕ) → ℕ → Option (ℕ × ℕ) → Type 0
FindsLast size_at addr found =
    MatchOption found ((q : ℕ) → q ≤ addr → size_at q ≡ None) (IsLastStart size_at addr)
