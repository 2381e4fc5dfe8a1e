use Rattle.hm_heap.proofs.Blocks.{blocks_apart, regions_apart}
use Rattle.hm_heap.proofs.laws.apart_blocks.Goals as goal

pub returns-clause-blocks : goal.returns-clause-blocks
returns-clause-blocks c = blocks_apart

pub returns-clause-regions : goal.returns-clause-regions
returns-clause-regions c = regions_apart c.home_laws.ensures.apart c.home_laws.ensures.apart_large c.homes_of_blocks.ensures
