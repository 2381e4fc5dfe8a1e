use Rattle.std.proofs.Common.{◌≡◌, ◌*◌, ◌≤◌}
use Rattle.hm_heap.specs.Passes.{AreOf}
use Rattle.hm_heap_tests.proofs.round_tests.run_rounds.Given as goal

abbrev pub invariant-loop-index : goal.invariant-loop-index
invariant-loop-index g l =
    AreOf l.fn.heap.locks l.root.turns
    × ((l.root.caller ≡ 0) × (l.root.splits ≤ 64 * l.index) × (l.root.out ≡ l.fn.root.out))
