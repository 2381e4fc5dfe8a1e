use Rattle.hm_trace.proofs.Exact.{spelled}
use Rattle.hm_trace.proofs.laws.texts_without_fault_are_spelled.Goals as goal

pub returns : goal.returns
returns c = spelled
