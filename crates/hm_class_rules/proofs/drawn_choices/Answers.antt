use Rattle.hm_class_rules.proofs.Alike.{drawn_is_stepped}
use Rattle.hm_class_rules.proofs.drawn_choices.Goals as goal

pub returns : goal.returns
returns c = drawn_is_stepped
