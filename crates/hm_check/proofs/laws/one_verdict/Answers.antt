use Rattle.hm_check.proofs.OneVerdict as law
use Rattle.hm_check.proofs.laws.one_verdict.Goals as goal

pub returns : goal.returns
returns c = law.one_verdict
