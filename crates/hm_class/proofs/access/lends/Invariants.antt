use Rattle.std.proofs.Common.{◌-◌, ◌≤◌}
use Rattle.hm_class.proofs.access.lends.Given as goal

abbrev pub decreases-loop-at : goal.decreases-loop-at
decreases-loop-at g l = l.end - l.at

abbrev pub invariant-loop-at : goal.invariant-loop-at
invariant-loop-at g l = record {
  later : l.addr ≤ l.at;
  within : l.at ≤ l.end;
}
