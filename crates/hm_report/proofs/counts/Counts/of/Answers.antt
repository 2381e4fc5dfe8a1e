use Rattle.std.proofs.Common.{List, count_by, ap, arith}
use Rattle.std.proofs.lemmas.List.Sums.{count_by-le-length}
use Rattle.hm_report.specs.declared.results.StepResult.{StepResult}
use Rattle.hm_report.specs.Summary.{is_of}
use Rattle.hm_report.proofs.EachCount.{count_more}
use Rattle.hm_report.proofs.counts.Counts.of.Goals as goal

pub loop-script-preserved : goal.loop-script-preserved
loop-script-preserved c = record {
  counted = λ kind.
      let more = count_more kind c.args.results.now c.loop-script.script-index c.script-item.result c.loop-script-test.true c.script-item.is in
      let here = ap (λ (steps : List StepResult). count_by (λ step. is_of kind step) steps) c.items.ensures in
      omega (arith, more, here, c.add_all.ensures kind, c.loop-script.invariant.counted kind);
  few = λ kind. omega (arith, c.add_all.ensures kind, count_by-le-length (λ step. is_of kind step) c.items.result.now, c.loop-script.invariant.few kind);
}
