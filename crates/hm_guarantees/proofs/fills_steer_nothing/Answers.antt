use Rattle.hm_guarantees.proofs.FillsSteerNothing.{fills_steer_nothing}
use Rattle.hm_guarantees.proofs.fills_steer_nothing.Goals as goal

pub returns : goal.returns
returns c = fills_steer_nothing
