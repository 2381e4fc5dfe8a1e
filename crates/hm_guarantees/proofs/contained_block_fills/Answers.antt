use Rattle.hm_guarantees.proofs.KeptBlocks.{contained_block_fills}
use Rattle.hm_guarantees.proofs.contained_block_fills.Goals as goal

pub returns : goal.returns
returns c = contained_block_fills
