use Rattle.hm_class_rules.proofs.Condemned.{never_given}
use Rattle.hm_class_rules.proofs.condemned_slots.Goals as goal

pub returns : goal.returns
returns c = never_given
