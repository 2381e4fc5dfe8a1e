use Rattle.hm_sizes.proofs.LargeSizes.{large_sizes}
use Rattle.hm_sizes.proofs.laws.large_laws.Goals as goal

pub returns : goal.returns
returns c = large_sizes
