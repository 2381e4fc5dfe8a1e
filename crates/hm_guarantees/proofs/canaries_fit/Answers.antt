use Rattle.hm_guarantees.proofs.Canaries.{canaries_fit}
use Rattle.hm_guarantees.proofs.canaries_fit.Goals as goal

pub returns : goal.returns
returns c = canaries_fit
