use Rattle.hm_guarantees.proofs.BlockFillsSteerNothing.{block_fills_steer_nothing}
use Rattle.hm_guarantees.proofs.block_fills_steer_nothing.Goals as goal

pub returns : goal.returns
returns c = block_fills_steer_nothing
