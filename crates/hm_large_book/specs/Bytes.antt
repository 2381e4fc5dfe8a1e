-- Where a range of addresses lies among live blocks, and writing into one.
use Rattle.std.specs.Prelude.{◌≡◌, ℕ, ◌+◌, ◌≤◌, List, length, slice_get, Some}
use Rattle.hm_base.specs.Lists.{written}
use Rattle.hm_large_rules.specs.State.{Block}
use Rattle.hm_large_book.specs.declared.blocks.LiveBlock.{LiveBlock}
use Rattle.hm_large_book.specs.declared.bytes.Position.{Position}

-- so many addresses from `a` on are those of bytes of the block at this index, so far into it
pub record LiesAt (live : List (ℕ × LiveBlock)) (a len : ℕ) (position : Position) : Type 0 where
  pub entry : ℕ × LiveBlock
  pub there : slice_get live position.block ≡ Some entry
  pub begins : entry.0 + position.offset ≡ a
  pub fits : position.offset + len ≤ length entry.1.bytes

-- a block with w written so far into it
abbrev pub over_block : ℕ → List ℕ → ℕ × Block → ℕ × Block
over_block offset w e = (e.0, record e.1 { bytes = written e.1.bytes offset w })
