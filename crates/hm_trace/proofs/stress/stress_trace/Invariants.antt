use Rattle.std.proofs.Common.{◌≡◌}
use Rattle.hm_trace.specs.Stress.{scripts}
use Rattle.hm_trace.proofs.stress.stress_trace.Given as goal

abbrev pub invariant-loop-i : goal.invariant-loop-i
invariant-loop-i l = l.scripts.items ≡ scripts l.seed l.i
