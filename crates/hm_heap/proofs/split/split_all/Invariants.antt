use Rattle.std.proofs.Common.{ℕ, ◌<◌, ◌≤◌, vec_len, vec_capacity, slice_index_or}
use Rattle.hm_turn.specs.Known.{Known, KnowsCallers}
use Rattle.hm_heap.specs.Passes.{cut, born}
use Rattle.hm_heap.proofs.Loops.{ChangedTo}
use Rattle.hm_heap.proofs.split.split_all.Given as goal

abbrev pub invariant-loop-r : goal.invariant-loop-r
invariant-loop-r g l = ChangedTo (cut l.caller) (born l.caller) l.fn.roots.items l.roots.items l.turns.items l.r × (vec_len l.fn.roots ≤ vec_capacity l.turns)
    × ((k : ℕ) (t : Known) → k < l.r → KnowsCallers (slice_index_or l.fn.roots.items k t).knows)
