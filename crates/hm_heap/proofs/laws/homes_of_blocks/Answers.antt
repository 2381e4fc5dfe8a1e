use Rattle.hm_heap.proofs.Blocks.{lies_in}
use Rattle.hm_heap.proofs.laws.homes_of_blocks.Goals as goal

pub returns : goal.returns
returns c = lies_in c.home_laws.ensures.regions c.home_laws.ensures.large
