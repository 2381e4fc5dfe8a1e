use Rattle.std.proofs.Common.{ℕ, ◌<◌, ◌≤◌, vec_len, slice_index_or}
use Rattle.hm_turn.specs.Known.{Known, KnowsCallers}
use Rattle.hm_heap.proofs.Loops.{MetFrom}
use Rattle.hm_heap.proofs.split.join_all.Given as goal

abbrev pub invariant-loop-other : goal.invariant-loop-other
invariant-loop-other g l = MetFrom l.fn.roots.items l.fn.others.items l.roots.items l.others.items
    × ((k : ℕ) (t : Known) → vec_len l.others ≤ k → k < vec_len l.roots → KnowsCallers (slice_index_or l.roots.items k t).knows)

abbrev pub decreases-loop-other : goal.decreases-loop-other
decreases-loop-other g l = goal.left-loop-other g l
