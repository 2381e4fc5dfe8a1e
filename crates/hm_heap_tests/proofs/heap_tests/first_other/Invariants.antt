use Rattle.hm_heap.specs.Passes.{AreOf}
use Rattle.hm_heap_tests.proofs.heap_tests.first_other.Given as goal

abbrev pub invariant-loop-ask : goal.invariant-loop-ask
invariant-loop-ask g l = AreOf l.heap.locks l.pass.turns
