use Rattle.hm_large_rules.proofs.Legal.{apart}
use Rattle.hm_large_rules.proofs.apart_blocks.Goals as goal

pub returns : goal.returns
returns c = apart
