use Rattle.std.proofs.Common.{◌≡◌, ◌-◌, ◌<◌, ◌≤◌, ℕ, get_or, take, drop}
use Rattle.hm_class_book.proofs.slab_bytes.first_nonzero.Given as goal

abbrev pub decreases-loop-done : goal.decreases-loop-done
decreases-loop-done l = l.len - l.done

-- the bytes so far are zero
pub record AreZero (l : goal.Live-loop-done) : Type 0 where
  pub within : l.done ≤ l.len
  pub zero : (k : ℕ) → k < l.done → get_or (take l.len (drop l.from l.run)) k 0 ≡ 0

abbrev pub invariant-loop-done : goal.invariant-loop-done
invariant-loop-done l = AreZero l
