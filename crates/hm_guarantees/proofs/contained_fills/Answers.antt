use Rattle.hm_guarantees.proofs.ContainedFills.{contained_fills}
use Rattle.hm_guarantees.proofs.contained_fills.Goals as goal

pub returns : goal.returns
returns c = contained_fills
