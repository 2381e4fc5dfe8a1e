use Rattle.std.proofs.Common.{Some, sym, subst}
use Rattle.hm_sizes.specs.Aligned.{AlignedGives}
use Rattle.hm_sizes.specs.declared.class.Kind.{Kind}
use Rattle.hm_heap.specs.Passes.{HeapView, AreOf}
use Rattle.hm_heap.specs.Requests.{AsksOfKind}
use Rattle.hm_heap.proofs.Starting.{small_starts, large_starts_at}
use Rattle.hm_heap.proofs.heap.Heap.allot.Goals as goal

pub returns-in-Small-clause-multiple : goal.returns-in-Small-clause-multiple
returns-in-Small-clause-multiple g c gives =
    let h = c.self.inside in
    let of = subst (λ (z : HeapView). AreOf z.locks c.args.pass.now.turns) (sym c.self.view_is) c.requires.of in
    small_starts h.config h.seed h.locks.items c.args.pass.now c.args.wanted.align c.self.invariant of c.reply_of.new.pass c.args.step c.args.wanted.asked c.class_index-index.result c.pass.inside.thread c.in-Small.class c.reply_of.result
    c.class_index-index.ensures.index c.class_index-index.ensures.below (subst (AsksOfKind c.args.wanted.asked c.args.wanted.align) c.in-Small.is c.requires.kind).0
    (subst (λ (z : Kind). AlignedGives c.args.wanted.asked c.args.wanted.align (Some z)) c.in-Small.is gives) c.reply_of.ensures.carried.follows

pub returns-in-Large-clause-multiple : goal.returns-in-Large-clause-multiple
returns-in-Large-clause-multiple g c gives =
    let h = c.self.inside in
    let of = subst (λ (z : HeapView). AreOf z.locks c.args.pass.now.turns) (sym c.self.view_is) c.requires.of in
    large_starts_at h.config h.seed h.locks.items c.args.pass.now c.args.wanted.align c.self.invariant of c.reply_of-in-Large.new.pass c.args.step c.args.wanted.asked c.large_index-index.result c.reply_of-in-Large.result
    c.large_index-index.ensures gives.0 c.reply_of-in-Large.ensures.carried.follows
