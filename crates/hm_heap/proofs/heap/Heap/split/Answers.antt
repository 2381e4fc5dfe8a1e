use Rattle.hm_heap.proofs.Splitting.{pass_born, pass_cut}
use Rattle.hm_heap.proofs.heap.Heap.split.Goals as goal

pub invariant_of-result : goal.invariant_of-result
invariant_of-result g c = rw c.split_all.ensures.born (pass_born _ _ _ c.requires.thread)

pub invariant_of-root : goal.invariant_of-root
invariant_of-root g c = rw c.split_all.ensures.root (pass_cut _ _ _ _ _ c.root.invariant)
