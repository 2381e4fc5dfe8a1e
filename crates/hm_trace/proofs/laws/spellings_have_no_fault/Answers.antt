use Rattle.hm_trace.proofs.Exact.{faultless}
use Rattle.hm_trace.proofs.laws.spellings_have_no_fault.Goals as goal

pub returns : goal.returns
returns c = faultless
