use Rattle.hm_run.proofs.Checked.{check_yes, check_no}
use Rattle.hm_run.proofs.laws.checks_are_exact.Goals as goal

pub returns-clause-yes : goal.returns-clause-yes
returns-clause-yes g c = λ words run source sink ends asks e.
    check_yes g.P.Pages run source sink c.yes_is_journal.ensures words ends asks e

pub returns-clause-no : goal.returns-clause-no
returns-clause-no g c = λ words run source sink ends asks e.
    check_no g.P.Pages run source sink c.yes_is_journal.ensures c.one_verdict.ensures words ends asks e
