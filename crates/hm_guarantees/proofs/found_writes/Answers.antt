use Rattle.hm_guarantees.proofs.FoundWrites.{found_writes}
use Rattle.hm_guarantees.proofs.found_writes.Goals as goal

pub returns : goal.returns
returns c = found_writes
