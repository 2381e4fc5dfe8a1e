use Rattle.hm_journal.proofs.Exact.{one_journal}
use Rattle.hm_journal.proofs.laws.journals_differ.Goals as goal

pub returns : goal.returns
returns c = one_journal
