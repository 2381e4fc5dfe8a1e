use Rattle.hm_trace.proofs.Stressed.{traces}
use Rattle.hm_trace.proofs.laws.stress_is_trace.Goals as goal

pub returns : goal.returns
returns c = traces
