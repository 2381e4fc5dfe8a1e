use Rattle.hm_class_rules.proofs.FewQuarantined.{holds_few}
use Rattle.hm_class_rules.proofs.quarantined_slots.Goals as goal

pub returns : goal.returns
returns c = holds_few
