use Rattle.hm_class_rules.proofs.NextEntry.{drawn_is_allowed}
use Rattle.hm_class_rules.proofs.drawn_is_legal.Goals as goal

pub returns : goal.returns
returns c = drawn_is_allowed
