use Rattle.hm_large_rules.proofs.LiveSizes.{live_sizes}
use Rattle.hm_large_rules.proofs.live_block_sizes.Goals as goal

pub returns : goal.returns
returns c = live_sizes
