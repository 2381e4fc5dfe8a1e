use Rattle.hm_class_rules.proofs.Delay.{delays}
use Rattle.hm_class_rules.proofs.delayed_slots.Goals as goal

pub returns : goal.returns
returns c = delays
