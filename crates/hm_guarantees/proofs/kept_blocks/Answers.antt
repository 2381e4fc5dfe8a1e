use Rattle.hm_guarantees.proofs.KeptBlocks.{kept_blocks, live_block_bytes}
use Rattle.hm_guarantees.proofs.kept_blocks.Goals as goal

pub returns : goal.returns
returns c = record { stand = live_block_bytes; kept = kept_blocks }
