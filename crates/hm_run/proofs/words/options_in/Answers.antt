use Rattle.hm_run.proofs.Valid.{valid}
use Rattle.hm_run.proofs.words.options_in.Goals as goal

pub returns-clause-valid : goal.returns-clause-valid
returns-clause-valid c =
    valid c.args.words.now c.template_of.result c.number_of.result c.number_of-2.result c.number_of-3.result
    c.number_of-2.ensures c.number_of-3.ensures
