use Rattle.hm_trace.proofs.FirstVersion as version
use Rattle.hm_trace.proofs.laws.first_version.Goals as goal

pub returns-clause-only : goal.returns-clause-only
returns-clause-only c = version.only

pub returns-clause-all : goal.returns-clause-all
returns-clause-all c = version.all
