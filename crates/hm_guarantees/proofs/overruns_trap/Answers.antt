use Rattle.hm_guarantees.proofs.Overruns.{overruns_trap}
use Rattle.hm_guarantees.proofs.overruns_trap.Goals as goal

pub returns : goal.returns
returns c = overruns_trap
