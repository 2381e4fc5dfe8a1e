use Rattle.std.proofs.Common.{◌-◌, List, length, subst, sym, ap, ◌∙◌, arith}
use Rattle.std.specs.Prelude.{Option, Some}
use Rattle.hm_slab_lists.specs.declared.ends.Ends.{Ends}
use Rattle.hm_slab_lists.specs.declared.slab.Link.{Link}
use Rattle.hm_slab_lists.specs.declared.slab.Slab.{Slab}
use Rattle.hm_slab_lists.specs.Links.{links_of, metas_of, lists_of, IsBelow}
use Rattle.hm_base.specs.Members.{among}
use Rattle.hm_slab_lists.specs.Lists.{Lists, list_in, gone, IsLoose}
use Rattle.hm_slab_lists.specs.Chained.{Chained, IsChained, with_lists}
use Rattle.hm_slab_lists.proofs.Whole.{chained, seen, out_done, shown_is, below_items, read_link, previous_below, next_below, counts_one, gone_loose, gone_none, is_loose}
use Rattle.hm_slab_lists.proofs.chains.Chains.take_out.Goals as goal

pub unlink-requires-clause-previous : goal.unlink-requires-clause-previous
unlink-requires-clause-previous c =
    subst (λ (l : List Slab). IsBelow c.in-Some.link.previous (length l)) (sym c.deref_mut.ensures.value)
    (previous_below c.self.inside.slabs.items c.self.inside.ends c.args.at c.in-Some.link c.self.invariant (read_link c.self.inside.slabs.items c.args.at c.index.result.now (below_items c.self.inside.slabs.items c.self.inside.ends (c.self.inside.slabs.cap - c.self.inside.slabs.len) c.args.at c.args.self.now c.self.view_is c.requires) c.index.ensures ∙ ap (λ (l : Option Link). Some l) c.in-Some.is))

pub unlink-requires-clause-next : goal.unlink-requires-clause-next
unlink-requires-clause-next c =
    subst (λ (l : List Slab). IsBelow c.in-Some.link.next (length l)) (sym c.deref_mut.ensures.value)
    (next_below c.self.inside.slabs.items c.self.inside.ends c.args.at c.in-Some.link c.self.invariant (read_link c.self.inside.slabs.items c.args.at c.index.result.now (below_items c.self.inside.slabs.items c.self.inside.ends (c.self.inside.slabs.cap - c.self.inside.slabs.len) c.args.at c.args.self.now c.self.view_is c.requires) c.index.ensures ∙ ap (λ (l : Option Link). Some l) c.in-Some.is))

pub without-requires : goal.without-requires
without-requires c =
    let one = counts_one c.self.inside.slabs.items c.self.inside.ends c.args.at c.in-Some.link c.self.invariant (read_link c.self.inside.slabs.items c.args.at c.index.result.now (below_items c.self.inside.slabs.items c.self.inside.ends (c.self.inside.slabs.cap - c.self.inside.slabs.len) c.args.at c.args.self.now c.self.view_is c.requires) c.index.ensures ∙ ap (λ (l : Option Link). Some l) c.in-Some.is) in
    omega (arith, one, ap (λ (e : Ends). e.count) c.of-ends.ensures)

pub invariant_of-self : goal.invariant_of-self
invariant_of-self c =
    subst (λ (l : List Slab). IsChained l c.set.new.self) (sym (shown_is c.self.inside.slabs.items c.deref_mut.result.now c.unlink.new.slabs c.self.inside.slabs.len c.unlink.ensures.metas c.deref_mut.ensures.len))
    (chained c.unlink.new.slabs c.set.new.self (gone c.args.at (lists_of (links_of c.self.inside.slabs.items) c.self.inside.ends))
    (out_done c.self.inside.slabs.items c.deref_mut.result.now c.unlink.new.slabs c.self.inside.ends c.set.new.self c.of-ends.result c.without.result c.args.at c.in-Some.link c.self.invariant
    (below_items c.self.inside.slabs.items c.self.inside.ends (c.self.inside.slabs.cap - c.self.inside.slabs.len) c.args.at c.args.self.now c.self.view_is c.requires)
    (read_link c.self.inside.slabs.items c.args.at c.index.result.now (below_items c.self.inside.slabs.items c.self.inside.ends (c.self.inside.slabs.cap - c.self.inside.slabs.len) c.args.at c.args.self.now c.self.view_is c.requires) c.index.ensures ∙ ap (λ (l : Option Link). Some l) c.in-Some.is)
    c.deref_mut.ensures.value c.of-ends.ensures c.unlink.ensures.links c.without.ensures c.set.ensures))

pub returns-in-Some-clause-changed : goal.returns-in-Some-clause-changed
returns-in-Some-clause-changed c =
    seen c.self.inside.slabs.items c.unlink.new.slabs _ c.self.inside.ends c.set.new.self (c.self.inside.slabs.cap - c.self.inside.slabs.len) c.args.self.now (gone c.args.at) (shown_is c.self.inside.slabs.items c.deref_mut.result.now c.unlink.new.slabs c.self.inside.slabs.len c.unlink.ensures.metas c.deref_mut.ensures.len)
    (c.unlink.ensures.metas ∙ ap metas_of c.deref_mut.ensures.value)
    (out_done c.self.inside.slabs.items c.deref_mut.result.now c.unlink.new.slabs c.self.inside.ends c.set.new.self c.of-ends.result c.without.result c.args.at c.in-Some.link c.self.invariant
    (below_items c.self.inside.slabs.items c.self.inside.ends (c.self.inside.slabs.cap - c.self.inside.slabs.len) c.args.at c.args.self.now c.self.view_is c.requires)
    (read_link c.self.inside.slabs.items c.args.at c.index.result.now (below_items c.self.inside.slabs.items c.self.inside.ends (c.self.inside.slabs.cap - c.self.inside.slabs.len) c.args.at c.args.self.now c.self.view_is c.requires) c.index.ensures ∙ ap (λ (l : Option Link). Some l) c.in-Some.is)
    c.deref_mut.ensures.value c.of-ends.ensures c.unlink.ensures.links c.without.ensures c.set.ensures) c.self.view_is

pub returns-in-Some-clause-loose : goal.returns-in-Some-clause-loose
returns-in-Some-clause-loose c =
    subst (λ (v : Chained). IsLoose c.args.at v.lists) (sym (seen c.self.inside.slabs.items c.unlink.new.slabs _ c.self.inside.ends c.set.new.self (c.self.inside.slabs.cap - c.self.inside.slabs.len) c.args.self.now (gone c.args.at) (shown_is c.self.inside.slabs.items c.deref_mut.result.now c.unlink.new.slabs c.self.inside.slabs.len c.unlink.ensures.metas c.deref_mut.ensures.len)
    (c.unlink.ensures.metas ∙ ap metas_of c.deref_mut.ensures.value)
    (out_done c.self.inside.slabs.items c.deref_mut.result.now c.unlink.new.slabs c.self.inside.ends c.set.new.self c.of-ends.result c.without.result c.args.at c.in-Some.link c.self.invariant
    (below_items c.self.inside.slabs.items c.self.inside.ends (c.self.inside.slabs.cap - c.self.inside.slabs.len) c.args.at c.args.self.now c.self.view_is c.requires)
    (read_link c.self.inside.slabs.items c.args.at c.index.result.now (below_items c.self.inside.slabs.items c.self.inside.ends (c.self.inside.slabs.cap - c.self.inside.slabs.len) c.args.at c.args.self.now c.self.view_is c.requires) c.index.ensures ∙ ap (λ (l : Option Link). Some l) c.in-Some.is)
    c.deref_mut.ensures.value c.of-ends.ensures c.unlink.ensures.links c.without.ensures c.set.ensures) c.self.view_is))
    (gone_loose c.args.at c.args.self.now.lists)

pub returns-in_default-clause-changed : goal.returns-in_default-clause-changed
returns-in_default-clause-changed c =
    ap (λ (l : Lists). with_lists l c.args.self.now) (sym (gone_none c.args.at c.args.self.now.lists
    (λ k. sym (ap (λ (v : Chained). among c.args.at (list_in v.lists k)) c.self.view_is)
    ∙ is_loose c.self.inside.slabs.items c.self.inside.ends k c.args.at c.self.invariant
    (read_link c.self.inside.slabs.items c.args.at c.index.result.now (below_items c.self.inside.slabs.items c.self.inside.ends (c.self.inside.slabs.cap - c.self.inside.slabs.len) c.args.at c.args.self.now c.self.view_is c.requires) c.index.ensures ∙ ap (λ (l : Option Link). Some l) c.in_default.is))))

pub returns-in_default-clause-loose : goal.returns-in_default-clause-loose
returns-in_default-clause-loose c =
    λ k. sym (ap (λ (v : Chained). among c.args.at (list_in v.lists k)) c.self.view_is)
    ∙ is_loose c.self.inside.slabs.items c.self.inside.ends k c.args.at c.self.invariant
    (read_link c.self.inside.slabs.items c.args.at c.index.result.now (below_items c.self.inside.slabs.items c.self.inside.ends (c.self.inside.slabs.cap - c.self.inside.slabs.len) c.args.at c.args.self.now c.self.view_is c.requires) c.index.ensures ∙ ap (λ (l : Option Link). Some l) c.in_default.is)
