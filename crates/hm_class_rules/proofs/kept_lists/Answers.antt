use Rattle.hm_class_rules.proofs.NextEntry.{lists_are_kept}
use Rattle.hm_class_rules.proofs.kept_lists.Goals as goal

pub returns : goal.returns
returns c = lists_are_kept
