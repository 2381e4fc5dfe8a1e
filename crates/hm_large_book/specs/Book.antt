-- What a book of the large region says of a state.
use Rattle.std.specs.Prelude.{◌≡◌, ℕ, ◌+◌, ◌&&◌, nat_le, nat_lt, Bool, List, map, length, take, Option, Some, None}
use Rattle.hm_model.specs.Maps.{at}
use Rattle.hm_large_rules.specs.Rules.{wrong_size}
use Rattle.hm_quarantine.specs.Delay.{delay, slots_of}
use Rattle.hm_quarantine.specs.LookingBack.{AreIndices, kept_after}
use Rattle.hm_sizes.specs.declared.config.Config.{Config}
use Rattle.hm_sizes.specs.Configs.{IsValid}
use Rattle.hm_large_rules.specs.State.{Block, Blocks, State, array_length, ring_length, AreGuarded}
use Rattle.hm_large_rules.specs.Draws.{stream_after}
use Rattle.hm_large_rules.specs.Laws.{IsSound}
use Rattle.hm_large_book.specs.declared.blocks.LiveBlock.{LiveBlock}
use Rattle.hm_large_book.specs.declared.blocks.Extent.{Extent}
use Rattle.hm_large_book.specs.declared.blocks.BlockBook.{BlockBook}
use Rattle.hm_large_book.specs.declared.book.LargeBook.{LargeBook}
use Rattle.hm_large_book.specs.Spaces.{IsSpaceOf}

-- ---- blocks
abbrev pub block_of : LiveBlock → Block
block_of b = record { asked = b.asked; size = b.size; guard = b.guard; failed = b.failed; bytes = b.bytes }

abbrev pub block_in : ℕ × LiveBlock → ℕ × Block
block_in e = (e.0, block_of e.1)

abbrev pub blocks_in : List (ℕ × LiveBlock) → Blocks
blocks_in live = map block_in live

-- one of its bytes has the address
abbrev pub reaches : ℕ → ℕ × LiveBlock → Bool
reaches q e = nat_le e.0 q && nat_lt q (e.0 + length e.1.bytes)

abbrev pub extent_of : Block → Extent
extent_of b = record { size = b.size; guard = b.guard }

abbrev pub extent_in : ℕ × Block → ℕ × Extent
extent_in e = (e.0, extent_of e.1)

-- blocks without their bytes
abbrev pub extents_of : Blocks → List (ℕ × Extent)
extents_of blocks = map extent_in blocks

-- a block that reaches so far begins at the address, and the stated size is its own
pub record Accepts (blocks : Blocks) (a : ℕ) (stated : Option ℕ) (extent : Extent) : Type 0 where
  pub block : Block
  pub there : at a blocks ≡ Some block
  pub reach : extent ≡ extent_of block
  pub size : wrong_size (Some block) stated ≡ None

-- some block is so
abbrev pub IsAccepted : Blocks → ℕ → Option ℕ → Type 0
IsAccepted blocks a stated = (extent : Extent) × Accepts blocks a stated extent

-- the lists and the free ranges say what the state says; the blocks in quarantine are kept without their bytes
pub record ShowsBlocks (c : Config) (s : State) (k : BlockBook) : Type 0 where
  pub live : blocks_in k.live.items ≡ s.live
  pub quarantined : k.quarantined.items ≡ extents_of s.quarantined
  pub recent : k.recent.items ≡ take (delay array_length ring_length) (slots_of s.frees)
  pub space : IsSpaceOf c s k.space
  pub out : k.space.out ≡ length s.live + length s.quarantined

-- ---- the book
pub record Shows (s : State) (k : LargeBook) : Type 0 where
  pub blocks : ShowsBlocks k.config s k.blocks
  pub quarantine : k.quarantine ≡ kept_after array_length ring_length s.frees
  pub indices : AreIndices array_length s.frees
  pub words : k.words ≡ stream_after k.seed s.words
  pub faults : k.faults ≡ s.faults

-- the book shows a state in which no two blocks meet and each live one has a guard
pub record Stands (s : State) (k : LargeBook) : Type 0 where
  pub valid : IsValid k.config
  pub sound : IsSound k.config s
  pub guarded : AreGuarded s.live
  pub shows : Shows s k
