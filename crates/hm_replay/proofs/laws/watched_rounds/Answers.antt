use Rattle.hm_replay.proofs.Looking.{looks_keep}
use Rattle.hm_replay.proofs.Watching.{goes_on, numbers_close}
use Rattle.hm_replay.proofs.laws.watched_rounds.Goals as goal

pub returns-clause-looks : goal.returns-clause-looks
returns-clause-looks c = looks_keep

pub returns-clause-more : goal.returns-clause-more
returns-clause-more c = goes_on

pub returns-clause-closed : goal.returns-clause-closed
returns-clause-closed c = numbers_close
