use Rattle.hm_trace.proofs.Lengths.{short}
use Rattle.hm_trace.proofs.laws.spellings_are_short.Goals as goal

pub returns : goal.returns
returns c = short
