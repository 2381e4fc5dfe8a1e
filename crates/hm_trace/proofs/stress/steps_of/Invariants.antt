use Rattle.std.proofs.Common.{◌≡◌}
use Rattle.hm_trace.specs.Stress.{groups, state}
use Rattle.hm_trace.specs.Views.{steps_view}
use Rattle.hm_trace.proofs.stress.steps_of.Given as goal

abbrev pub invariant-loop-j : goal.invariant-loop-j
invariant-loop-j l = record {
  state : l.x ≡ state l.seed l.thread l.j;
  steps : steps_view l.steps.items ≡ groups l.seed l.thread l.j;
}
