use Rattle.hm_guarantees.proofs.FoundOverflows.{found_overflows}
use Rattle.hm_guarantees.proofs.found_overflows.Goals as goal

pub returns : goal.returns
returns c = found_overflows
