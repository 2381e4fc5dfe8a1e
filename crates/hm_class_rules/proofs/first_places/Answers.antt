use Rattle.hm_class_rules.proofs.FirstFree.{finds_first, finds_some}
use Rattle.hm_class_rules.proofs.first_places.Goals as goal

pub returns : goal.returns
returns c = record { first = finds_first; some = finds_some }
