use Rattle.std.proofs.Common.{◌≡◌, ◌-◌, ◌≤◌, take, drop, replicate}
use Rattle.hm_large_book.proofs.bytes.is_run.Given as goal

abbrev pub decreases-loop-done : goal.decreases-loop-done
decreases-loop-done l = l.len - l.done

-- the bytes so far are all this one
pub record AreOne (l : goal.Live-loop-done) : Type 0 where
  pub within : l.done ≤ l.len
  pub alike : take l.done (drop l.from l.bytes) ≡ replicate l.done l.byte

abbrev pub invariant-loop-done : goal.invariant-loop-done
invariant-loop-done l = AreOne l
