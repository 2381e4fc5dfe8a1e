-- What changing the blocks asks: some state is shown in which the change can be made.
use Rattle.std.specs.Prelude.{◌≡◌, ℕ, Some}
use Rattle.hm_model.specs.Maps.{at}
use Rattle.hm_sizes.specs.Configs.{IsValid}
use Rattle.hm_sizes.specs.declared.config.Config.{Config}
use Rattle.hm_large_rules.specs.State.{Block, size_for, State}
use Rattle.hm_large_rules.specs.Rules.{IsCandidate}
use Rattle.hm_large_rules.specs.Laws.{IsSound}
use Rattle.hm_large_book.specs.declared.blocks.BlockBook.{BlockBook}
use Rattle.hm_large_book.specs.declared.blocks.Extent.{Extent}
use Rattle.hm_large_book.specs.Book.{extent_of, ShowsBlocks}

pub record IsShown (k : BlockBook) : Type 0 where
  pub config : Config
  pub s : State
  pub valid : IsValid config
  pub sound : IsSound config s
  pub shows : ShowsBlocks config s k

-- a block for the request may stand at the address
pub record HasSpace (k : BlockBook) (a asked guard : ℕ) : Type 0 where
  pub config : Config
  pub s : State
  pub align : ℕ
  pub valid : IsValid config
  pub shows : ShowsBlocks config s k
  pub candidate : IsCandidate config s align (size_for asked) guard a

-- a live block that reaches so far begins at the address
pub record IsLive (k : BlockBook) (a : ℕ) (extent : Extent) : Type 0 where
  pub shown : IsShown k
  pub block : Block
  pub there : at a shown.s.live ≡ Some block
  pub reach : extent ≡ extent_of block
