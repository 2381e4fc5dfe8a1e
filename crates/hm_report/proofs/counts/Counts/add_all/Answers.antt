use Rattle.std.proofs.Common.{ap, arith}
use Rattle.hm_report.specs.declared.counts.Counts.{Counts}
use Rattle.hm_report.specs.declared.counts.Kind.{Kind}
use Rattle.hm_report.specs.Counts.{count_of, one_if}
use Rattle.hm_report.proofs.EachCount.{count_of-with_one_more, counted_more, room_left}
use Rattle.hm_report.proofs.counts.Counts.add_all.Goals as goal

pub add-requires : goal.add-requires
add-requires c = let kind = c.kind_of.result in omega (arith, c.loop-step.invariant kind, c.requires kind, room_left kind c.args.steps.now c.loop-step.step-index c.loop-step-test.true)

pub loop-step-preserved : goal.loop-step-preserved
loop-step-preserved c kind =
    let more = counted_more kind c.args.steps.now c.loop-step.step-index c.step-item.result c.loop-step-test.true c.step-item.is in
    let one = count_of-with_one_more c.loop-step.self c.kind_of.result kind in
    let added = ap (λ (counts : Counts). count_of counts kind) c.add.ensures in
    let here = ap (λ (k : Kind). one_if k kind) c.kind_of.ensures in
    omega (arith, more, one, added, here, c.loop-step.invariant kind)
