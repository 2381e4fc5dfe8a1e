use Rattle.std.proofs.Common.{◌≡◌, ◌∙◌, ap, arith}
use Rattle.hm_trace.specs.Stress.{groups}
use Rattle.hm_trace.proofs.stress.steps_of.Goals as goal

pub returns : goal.returns
returns c = let all : c.loop-j.j ≡ 2500 = omega arith in c.loop-j.invariant.steps ∙ ap (λ j. groups c.args.seed c.args.thread j) all
