use Rattle.std.proofs.Common.{◌≡◌, ◌+◌, ◌≤◌, ◌++◌, length, map, Some, vec_capacity}
use Rattle.hm_replay.proofs.round.all_found.Given as goal

abbrev pub invariant-loop-one : goal.invariant-loop-one
invariant-loop-one g l =
    (map (λ one. Some one) l.all.items ++ l.one-iterator.rest.items ≡ l.fn.found.items)
    × (length l.all.items + length l.one-iterator.rest.items ≤ vec_capacity l.all)
