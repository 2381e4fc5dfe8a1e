use Rattle.std.proofs.Common.{[], ◌∷◌, ◌++◌}
use Rattle.hm_class_rules.proofs.Legal as class_legal
use Rattle.hm_heap.specs.ClassRules as class
use Rattle.hm_large_rules.proofs.Legal as large_legal
use Rattle.hm_heap.specs.LargeRules as large
use Rattle.hm_run.specs.Laws.{class_rules, large_rules}
use Rattle.hm_run.proofs.Causes.{refuses_class, refuses_large}
use Rattle.hm_run.proofs.Outcomes.{lawful}
use Rattle.hm_run.proofs.laws.refusals_have_causes.Goals as goal

pub returns-clause-class : goal.returns-clause-class
returns-clause-class g c = λ o closed index p before e begins.
    let t = class_rules g.P.Pages o closed index p in
    refuses_class t (class.state t before) e
    (class_legal.one_less t before e ((lawful g.P.Pages o closed index p (before ++ e ∷ []) begins.begins).class begins.class).legal).1

pub returns-clause-large : goal.returns-clause-large
returns-clause-large g c = λ o closed index p before e begins.
    let t = large_rules g.P.Pages o closed index p in
    refuses_large t (large.state t before) e
    (large_legal.one_less t before e ((lawful g.P.Pages o closed index p (before ++ e ∷ []) begins.begins).large begins.large).legal).1
