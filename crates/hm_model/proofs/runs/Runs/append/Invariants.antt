use Rattle.std.proofs.Common.{◌≡◌, ◌++◌, ◌-◌, ◌≤◌, take, length}
use Rattle.hm_model.specs.Runs.{expand, AreRuns}
use Rattle.hm_model.proofs.runs.Runs.append.Given as goal

abbrev pub invariant-loop-start : goal.invariant-loop-start
invariant-loop-start l = record {
  within : l.start ≤ length l.bytes;
  bytes : expand l.self-inside.pairs.items ≡ expand l.fn.self ++ take l.start l.bytes;
  runs : AreRuns l.self-inside.pairs.items;
}

abbrev pub decreases-loop-start : goal.decreases-loop-start
decreases-loop-start l = length l.bytes - l.start
