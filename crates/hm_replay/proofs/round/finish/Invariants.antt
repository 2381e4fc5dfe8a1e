use Rattle.std.proofs.Common.{◌≡◌, ◌≤◌, ◌++◌, map, vec_len, vec_capacity}
use Rattle.hm_replay.specs.declared.round.Worker.{Worker}
use Rattle.hm_replay.proofs.Finishes.{FinishingFrom}
use Rattle.hm_replay.proofs.round.finish.Given as goal

abbrev pub invariant-loop-worker : goal.invariant-loop-worker
invariant-loop-worker g l =
    FinishingFrom l.fn.heap.locks l.fn.root l.root l.fn.workers.items l.worker-iterator.rest.items l.found.items
    × (vec_len l.fn.workers ≤ vec_capacity l.found)
    × (l.lists.items ++ map (λ (w : Worker). w.left) l.worker-iterator.rest.items
    ≡ map (λ (w : Worker). w.left) l.fn.workers.items)
    × (vec_len l.lists ≡ vec_len l.found) × (vec_len l.fn.workers ≤ vec_capacity l.lists)
