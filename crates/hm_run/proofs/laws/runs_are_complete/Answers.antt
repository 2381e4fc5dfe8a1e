use Rattle.hm_run.proofs.Completed.{complete, complete_stress}
use Rattle.hm_run.proofs.laws.runs_are_complete.Goals as goal

pub returns-clause-source : goal.returns-clause-source
returns-clause-source g c = λ words run source sink trace ends asks is before whole sound.
    complete g.P.Pages run sink sound c.spellings_have_no_fault.ensures c.spellings_are_short.ensures trace is
    source before whole words ends asks

pub returns-clause-stress : goal.returns-clause-stress
returns-clause-stress g c = λ words run source sink ends asks sound.
    complete_stress g.P.Pages run sink sound source words ends asks
