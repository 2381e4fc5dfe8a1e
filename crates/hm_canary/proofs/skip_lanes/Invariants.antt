use Rattle.std.proofs.Common.{◌-◌, ◌≤◌, length}
use Rattle.hm_canary.specs.Lanes.{AllZero}
use Rattle.hm_canary.proofs.skip_lanes.Given as goal

abbrev pub invariant-loop-i : goal.invariant-loop-i
invariant-loop-i l = (l.i ≤ length l.bytes) × AllZero l.bytes 0 l.i

abbrev pub decreases-loop-i : goal.decreases-loop-i
decreases-loop-i l = length l.bytes - l.i
