use Rattle.std.proofs.Common.{◌≡◌, length, arith}
use Rattle.hm_heap.proofs.Splitting.{pass_met}
use Rattle.hm_heap.proofs.heap.Heap.join.Goals as goal

pub invariant_of-root : goal.invariant_of-root
invariant_of-root g c =
    let o = c.requires.of in
    let p : length c.pass.inside.turns.items ≡ length c.root.inside.turns.items = grind (arith, o.0.same, o.1.same) in
    rw (c.join_all.ensures.all, c.saturating_sub-root-inside.ensures) (pass_met c.root.inside.caller c.root.inside.thread c.root.inside.splits c.root.inside.out c.root.inside.turns.items c.pass.inside.turns.items p c.root.invariant)
