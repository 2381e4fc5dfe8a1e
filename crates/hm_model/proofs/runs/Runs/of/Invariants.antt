use Rattle.std.proofs.Common.{◌≡◌, ◌++◌, ◌-◌, ◌≤◌, drop, length}
use Rattle.hm_model.specs.Runs.{runs_of}
use Rattle.hm_model.proofs.runs.Runs.of.Given as goal

abbrev pub invariant-loop-start : goal.invariant-loop-start
invariant-loop-start l = (l.pairs.items ++ runs_of (drop l.start l.bytes) ≡ runs_of l.bytes) × (l.start ≤ length l.bytes)

abbrev pub decreases-loop-start : goal.decreases-loop-start
decreases-loop-start l = length l.bytes - l.start
