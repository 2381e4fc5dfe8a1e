use Rattle.std.proofs.Common.{◌≡◌, ◌∙◌, ◌+◌, ap, arith}
use Rattle.hm_trace.specs.Stress.{scripts}
use Rattle.hm_trace.proofs.Stressed.{round_fits, script_few, script_fits, traces}
use Rattle.hm_trace.proofs.stress.stress_trace.Goals as goal

pub of-requires-clause-valid : goal.of-requires-clause-valid
of-requires-clause-valid c = rw c.in_ok-steps.ensures (script_fits c.args.seed (c.loop-i.i + 1) (omega arith) (omega arith))

pub of-requires-clause-few : goal.of-requires-clause-few
of-requires-clause-few c = script_few c.in_ok-steps.steps.items c.args.seed (c.loop-i.i + 1) c.in_ok-steps.ensures

pub of-requires-2-clause-scripts : goal.of-requires-2-clause-scripts
of-requires-2-clause-scripts c =
    let all : c.loop-i.i ≡ 16 = omega arith in
    rw (c.loop-i.invariant ∙ ap (scripts c.args.seed) all) (round_fits c.args.seed 16 (omega arith))

pub of-requires-3 : goal.of-requires-3
of-requires-3 c =
    let all : c.loop-i.i ≡ 16 = omega arith in
    rw (c.in_ok-push-2.ensures.items, c.new-rounds.ensures.items, c.of-2.ensures, c.new.ensures.items, c.loop-i.invariant ∙ ap (scripts c.args.seed) all) (traces c.args.seed)
