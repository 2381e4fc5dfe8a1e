use Rattle.hm_trace.proofs.Exact.{one_trace}
use Rattle.hm_trace.proofs.laws.spellings_differ.Goals as goal

pub returns : goal.returns
returns c = one_trace
