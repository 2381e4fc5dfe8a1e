use Rattle.hm_class_rules.proofs.Zeroed.{zeroed}
use Rattle.hm_class_rules.proofs.zeroed_slots.Goals as goal

pub returns : goal.returns
returns c = zeroed
