use Rattle.hm_quarantine.proofs.Ages.{delays, holds_few}
use Rattle.hm_quarantine.proofs.Passes.{looks_back}
use Rattle.hm_quarantine.proofs.laws.release_laws.Goals as goal

pub returns-clause-looks_back : goal.returns-clause-looks_back
returns-clause-looks_back c = looks_back

pub returns-clause-delays : goal.returns-clause-delays
returns-clause-delays c = delays

pub returns-clause-holds_few : goal.returns-clause-holds_few
returns-clause-holds_few c = holds_few
