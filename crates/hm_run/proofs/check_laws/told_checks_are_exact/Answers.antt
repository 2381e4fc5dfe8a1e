use Rattle.hm_run.proofs.ToldChecks.{tells_fault, tells_journal}
use Rattle.hm_run.proofs.check_laws.told_checks_are_exact.Goals as goal

pub returns-clause-yes : goal.returns-clause-yes
returns-clause-yes g c = λ words run source sink bytes ends asks before e.
    tells_journal g.P.Pages run source sink bytes before c.yes_is_journal.ensures words ends asks e

pub returns-clause-no : goal.returns-clause-no
returns-clause-no g c = λ words run source sink bytes ends asks before e.
    tells_fault g.P.Pages run source sink bytes before c.no_is_first_fault.ensures.exact words ends asks e
