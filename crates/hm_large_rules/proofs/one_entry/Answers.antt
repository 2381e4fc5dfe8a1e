use Rattle.hm_large_rules.proofs.SameEntry.{one_next}
use Rattle.hm_large_rules.proofs.one_entry.Goals as goal

pub returns : goal.returns
returns c = one_next
