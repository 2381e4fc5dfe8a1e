use Rattle.hm_sizes.proofs.Guards.{next_after}
use Rattle.hm_sizes.proofs.laws.guard_law.Goals as goal

pub returns : goal.returns
returns c = next_after
