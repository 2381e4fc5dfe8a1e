use Rattle.hm_sizes.proofs.ClassTable.{ascends}
use Rattle.hm_sizes.proofs.Requests.{agrees}
use Rattle.hm_sizes.proofs.laws.size_laws.Goals as goal

pub returns-clause-ascend : goal.returns-clause-ascend
returns-clause-ascend c = ascends

pub returns-clause-agree : goal.returns-clause-agree
returns-clause-agree c = agrees
