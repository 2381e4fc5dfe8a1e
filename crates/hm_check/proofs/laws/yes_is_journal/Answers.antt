use Rattle.hm_check.proofs.YesIsJournal as law
use Rattle.hm_check.proofs.laws.yes_is_journal.Goals as goal

pub returns : goal.returns
returns c = law.yes_is_journal
