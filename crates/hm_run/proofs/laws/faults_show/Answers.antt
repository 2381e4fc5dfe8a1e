use Rattle.hm_run.proofs.Exact.{shows_source, shows_sink}
use Rattle.hm_run.proofs.laws.faults_show.Goals as goal

pub returns-clause-source_only : goal.returns-clause-source_only
returns-clause-source_only g c = λ words run source sink ends. (shows_source g.P.Pages run sink source words ends).0

pub returns-clause-source_shows : goal.returns-clause-source_shows
returns-clause-source_shows g c = λ words run source sink ends. (shows_source g.P.Pages run sink source words ends).1

pub returns-clause-sink_only : goal.returns-clause-sink_only
returns-clause-sink_only g c = λ words run source sink ends. (shows_sink g.P.Pages run sink source words ends).0

pub returns-clause-sink_shows : goal.returns-clause-sink_shows
returns-clause-sink_shows g c = λ words run source sink ends. (shows_sink g.P.Pages run sink source words ends).1
