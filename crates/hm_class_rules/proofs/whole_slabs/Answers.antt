use Rattle.hm_class_rules.proofs.Whole.{whole_run}
use Rattle.hm_class_rules.proofs.whole_slabs.Goals as goal

pub returns : goal.returns
returns c = whole_run
