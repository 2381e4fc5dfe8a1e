use Rattle.hm_run.proofs.Checked.{check_complete, check_told}
use Rattle.hm_run.proofs.laws.checks_are_complete.Goals as goal

pub returns-clause-ends : goal.returns-clause-ends
returns-clause-ends g c = λ words run source sink bytes ends asks before short whole sound.
    check_complete g.P.Pages run source sink bytes before short whole sound words ends asks

pub returns-clause-told : goal.returns-clause-told
returns-clause-told g c = λ words run source sink bytes v ends asks before short whole sound is.
    check_told g.P.Pages run source sink bytes before short whole sound c.one_verdict.ensures v is words ends asks
