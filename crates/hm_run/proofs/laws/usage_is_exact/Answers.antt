use Rattle.hm_run.proofs.FirstFaults.{only_unaccepted, unaccepted_told}
use Rattle.hm_run.proofs.laws.usage_is_exact.Goals as goal

pub returns-clause-only : goal.returns-clause-only
returns-clause-only g c = λ words run source sink. only_unaccepted g.P.Pages run sink source words

pub returns-clause-unaccepted : goal.returns-clause-unaccepted
returns-clause-unaccepted g c = λ words run source sink. unaccepted_told g.P.Pages run sink source words
