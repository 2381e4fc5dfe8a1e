use Rattle.hm_guarantees.proofs.WritesSteerNothing as writes
use Rattle.hm_guarantees.proofs.writes_steer_nothing.Goals as goal

pub returns : goal.returns
returns c = writes.writes_steer_nothing
