use Rattle.hm_class_rules.proofs.NextEntry.{one_more_stepped, one_less_stepped, next_cells}
use Rattle.hm_class_rules.proofs.drawn_entries.Goals as goal

pub returns : goal.returns
returns c = record { one_more = one_more_stepped; one_less = one_less_stepped; next = next_cells }
