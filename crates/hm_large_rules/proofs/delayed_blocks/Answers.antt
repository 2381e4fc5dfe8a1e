use Rattle.hm_large_rules.proofs.Delay.{delays}
use Rattle.hm_large_rules.proofs.delayed_blocks.Goals as goal

pub returns : goal.returns
returns c = delays
