use Rattle.std.proofs.Common.{◌-◌, ◌≡◌, ◌≤◌, ◌%◌, drop}
use Rattle.std.specs.Cmp.Lexicographic.{slice_cmp}
use Rattle.std.specs.Ordering.{nat_cmp}
use Rattle.hm_trace.proofs.names.order_of.Given as goal

abbrev pub invariant-loop-at : goal.invariant-loop-at
invariant-loop-at l = record {
  within : l.at ≤ 32;
  whole : l.at % 8 ≡ 0;
  left : slice_cmp nat_cmp l.bytes l.others ≡ slice_cmp nat_cmp (drop l.at l.bytes) (drop l.at l.others);
}

abbrev pub decreases-loop-at : goal.decreases-loop-at
decreases-loop-at l = 32 - l.at
