use Rattle.hm_run.specs.Words.{asked_in}
use Rattle.hm_run.proofs.TooLong.{only_past, long_refused}
use Rattle.hm_run.proofs.laws.too_long_is_exact.Goals as goal

pub returns-clause-only : goal.returns-clause-only
returns-clause-only g c = λ words run source sink ends. only_past g.P.Pages run sink source (asked_in words) ends.1

pub returns-clause-long : goal.returns-clause-long
returns-clause-long g c = λ words run source sink bytes ends asks before long whole sound.
    long_refused g.P.Pages run sink source bytes before long whole sound words ends asks
