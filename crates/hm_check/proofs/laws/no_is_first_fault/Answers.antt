use Rattle.hm_check.proofs.FirstFaults as law
use Rattle.hm_check.proofs.laws.no_is_first_fault.Goals as goal

pub returns-clause-exact : goal.returns-clause-exact
returns-clause-exact c = law.no_is_first_fault

pub returns-clause-none : goal.returns-clause-none
returns-clause-none c = law.none_goes_on
