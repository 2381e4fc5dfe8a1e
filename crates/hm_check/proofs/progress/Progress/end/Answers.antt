use Rattle.std.proofs.Common.{rules, tests, arith}
use Rattle.std.proofs.lemmas.Grind.{common_steps}
use Rattle.hm_check.proofs.Kept.{ended_no, ended_yes}
use Rattle.hm_check.proofs.progress.Progress.end.Goals as goal

pub returns-then-ended-nothing : goal.returns-then-ended-nothing
returns-then-ended-nothing c = λ past. ended_yes c.args.self.now past c.args.number c.args.rest.now
    (search (rules, tests)) (search (rules, tests))

pub returns-else-ended-nothing : goal.returns-else-ended-nothing
returns-else-ended-nothing c = λ past. ended_no c.args.self.now past c.args.number c.args.rest.now
    (λ at none. grind (arith, common_steps, at, none))
