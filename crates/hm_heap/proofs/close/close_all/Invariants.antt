use Rattle.std.proofs.Common.{◌≤◌, vec_len, vec_capacity}
use Rattle.hm_heap.proofs.Loops.{ClosesFrom}
use Rattle.hm_heap.proofs.close.close_all.Given as goal

abbrev pub invariant-loop-lock : goal.invariant-loop-lock
invariant-loop-lock g l = ClosesFrom g.P.Pages l.fn.locks.items l.fn.turns.items l.locks.items l.turns.items l.histories.items l.pages.items × ((vec_len l.fn.locks ≤ vec_capacity l.histories) × (vec_len l.fn.locks ≤ vec_capacity l.pages))

abbrev pub decreases-loop-lock : goal.decreases-loop-lock
decreases-loop-lock g l = vec_len l.locks
