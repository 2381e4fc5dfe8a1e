use Rattle.std.proofs.Common.{ap, arith}
use Rattle.std.proofs.lemmas.Grind.{common_steps}
use Rattle.hm_report.specs.declared.counts.Counts.{Counts}
use Rattle.hm_report.proofs.NoFindings.{scripts_none}
use Rattle.hm_report.proofs.summary_line.is_found.Goals as goal

pub returns-else-counts-gt0 : goal.returns-else-counts-gt0
returns-else-counts-gt0 c =
    let none = ap (λ (counts : Counts). counts.other) c.requires in
    let zero = scripts_none c.args.results.now (omega (arith, none, c.if-counts-gt0.false)) in
    grind (arith, common_steps)
