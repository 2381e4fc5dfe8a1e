use Rattle.hm_class_rules.proofs.Emptied.{one_more_empty}
use Rattle.hm_class_rules.proofs.emptied_slab.Goals as goal

pub returns : goal.returns
returns c = one_more_empty
