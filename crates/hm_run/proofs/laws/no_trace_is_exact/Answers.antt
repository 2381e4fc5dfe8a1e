use Rattle.hm_run.proofs.FirstFaults.{only_faulty, faulty_told}
use Rattle.hm_run.proofs.laws.no_trace_is_exact.Goals as goal

pub returns-clause-only : goal.returns-clause-only
returns-clause-only g c = λ words run source sink. only_faulty g.P.Pages run sink source words

pub returns-clause-faulty : goal.returns-clause-faulty
returns-clause-faulty g c = λ words run source sink bytes fault ends asks before short first whole sound.
    faulty_told g.P.Pages run sink source c.spellings_have_no_fault.ensures bytes fault before short first whole sound words ends asks
