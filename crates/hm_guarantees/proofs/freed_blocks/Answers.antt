use Rattle.hm_guarantees.proofs.FreedBlocks.{freed_blocks, freed_bytes}
use Rattle.hm_guarantees.proofs.freed_blocks.Goals as goal

pub returns : goal.returns
returns c = record { refused = freed_blocks; gone = freed_bytes }
