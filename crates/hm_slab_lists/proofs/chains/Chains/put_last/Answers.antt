use Rattle.std.proofs.Common.{◌-◌, List, length, subst, sym, ap, ◌∙◌}
use Rattle.hm_slab_lists.specs.declared.ends.Ends.{Ends}
use Rattle.hm_slab_lists.specs.declared.slab.Slab.{Slab}
use Rattle.hm_slab_lists.specs.Links.{links_of, metas_of, lists_of, IsBelow}
use Rattle.hm_slab_lists.specs.Lists.{ended}
use Rattle.hm_slab_lists.specs.Chained.{IsChained}
use Rattle.hm_slab_lists.proofs.Whole.{chained, seen, last_done, shown_is, below_items, loose_items, ends_below}
use Rattle.hm_slab_lists.proofs.chains.Chains.put_last.Goals as goal

pub link_last-requires-clause-last : goal.link_last-requires-clause-last
link_last-requires-clause-last c =
    subst (λ (l : List Slab). IsBelow c.of-ends.result.last (length l)) (sym c.deref_mut.ensures.value)
    (subst (λ (e : Ends). IsBelow e.last (length c.self.inside.slabs.items)) (sym c.of-ends.ensures) (ends_below c.self.inside.slabs.items c.self.inside.ends c.args.list c.self.invariant).1)

pub invariant_of-self : goal.invariant_of-self
invariant_of-self c =
    subst (λ (l : List Slab). IsChained l c.set.new.self) (sym (shown_is c.self.inside.slabs.items c.deref_mut.result.now c.link_last.new.slabs c.self.inside.slabs.len c.link_last.ensures.metas c.deref_mut.ensures.len))
    (chained c.link_last.new.slabs c.set.new.self (ended c.args.list c.args.at (lists_of (links_of c.self.inside.slabs.items) c.self.inside.ends))
    (last_done c.self.inside.slabs.items c.deref_mut.result.now c.link_last.new.slabs c.self.inside.ends c.set.new.self c.of-ends.result c.with_last.result c.args.list c.args.at c.self.invariant
    (below_items c.self.inside.slabs.items c.self.inside.ends (c.self.inside.slabs.cap - c.self.inside.slabs.len) c.args.at c.args.self.now c.self.view_is c.requires.at)
    (loose_items c.self.inside.slabs.items c.self.inside.ends (c.self.inside.slabs.cap - c.self.inside.slabs.len) c.args.at c.args.self.now c.self.view_is c.requires.loose)
    c.deref_mut.ensures.value c.of-ends.ensures c.link_last.ensures.links c.with_last.ensures c.set.ensures))

pub returns : goal.returns
returns c =
    seen c.self.inside.slabs.items c.link_last.new.slabs _ c.self.inside.ends c.set.new.self (c.self.inside.slabs.cap - c.self.inside.slabs.len) c.args.self.now (ended c.args.list c.args.at) (shown_is c.self.inside.slabs.items c.deref_mut.result.now c.link_last.new.slabs c.self.inside.slabs.len c.link_last.ensures.metas c.deref_mut.ensures.len)
    (c.link_last.ensures.metas ∙ ap metas_of c.deref_mut.ensures.value)
    (last_done c.self.inside.slabs.items c.deref_mut.result.now c.link_last.new.slabs c.self.inside.ends c.set.new.self c.of-ends.result c.with_last.result c.args.list c.args.at c.self.invariant
    (below_items c.self.inside.slabs.items c.self.inside.ends (c.self.inside.slabs.cap - c.self.inside.slabs.len) c.args.at c.args.self.now c.self.view_is c.requires.at)
    (loose_items c.self.inside.slabs.items c.self.inside.ends (c.self.inside.slabs.cap - c.self.inside.slabs.len) c.args.at c.args.self.now c.self.view_is c.requires.loose)
    c.deref_mut.ensures.value c.of-ends.ensures c.link_last.ensures.links c.with_last.ensures c.set.ensures) c.self.view_is
