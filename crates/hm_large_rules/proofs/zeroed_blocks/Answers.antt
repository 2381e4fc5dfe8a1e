use Rattle.hm_large_rules.proofs.Zeroed.{zeroed}
use Rattle.hm_large_rules.proofs.zeroed_blocks.Goals as goal

pub returns : goal.returns
returns c = zeroed
