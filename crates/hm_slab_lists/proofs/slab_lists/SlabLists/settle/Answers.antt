use Rattle.std.proofs.Common.{subst, sym, ap, ◌∙◌}
use Rattle.std.specs.FinMap as finite
use Rattle.hm_slab_lists.specs.declared.slab.ListName.{ListName}
use Rattle.hm_slab_lists.specs.Lists.{placed}
use Rattle.hm_slab_lists.specs.Chained.{Chained, with_lists}
use Rattle.hm_slab_lists.specs.Table.{Table, shown, IsTable}
use Rattle.hm_slab_lists.proofs.Tables.{stands, open_list, table_settled, shown_settled, none_there}
use Rattle.hm_slab_lists.proofs.ByNumber.{get_by_index}
use Rattle.hm_slab_lists.proofs.slab_lists.SlabLists.settle.Goals as goal

pub invariant_of-self : goal.invariant_of-self
invariant_of-self c =
    let listed = open_list c.args.n c.args.self.now c.requires in
    let at = stands c.self.inside.chains c.self.inside.parking.items c.self.inside.limit c.self.inside.guard_interval c.self.inside.slots c.args.n c.index_in-index.result c.args.self.now listed.0 c.self.invariant c.self.view_is c.index_in-index.ensures.opened listed.1 in
    subst (λ (k : Chained). IsTable k c.self.inside.parking.items c.self.inside.limit c.self.inside.guard_interval c.self.inside.slots) (sym c.move_front.ensures)
    (table_settled c.self.inside.chains c.self.inside.parking.items c.self.inside.limit c.self.inside.guard_interval c.self.inside.slots c.args.n c.index_in-index.result c.named_list-list.result c.self.invariant at)

pub returns-in-Some : goal.returns-in-Some
returns-in-Some c =
    let listed = open_list c.args.n c.args.self.now c.requires in
    let at = stands c.self.inside.chains c.self.inside.parking.items c.self.inside.limit c.self.inside.guard_interval c.self.inside.slots c.args.n c.index_in-index.result c.args.self.now listed.0 c.self.invariant c.self.view_is c.index_in-index.ensures.opened listed.1 in
    ap (λ (k : Chained). shown k c.self.inside.parking.items c.self.inside.limit c.self.inside.guard_interval c.self.inside.slots)
    (c.move_front.ensures ∙ ap (λ (l : ListName). with_lists (placed l c.index_in-index.result c.self.inside.chains.lists) c.self.inside.chains) c.named_list-list.ensures)
    ∙ shown_settled c.self.inside.chains c.self.inside.parking.items c.self.inside.limit c.self.inside.guard_interval c.self.inside.slots c.args.n c.index_in-index.result c.in-Some.meta.now c.args.self.now c.self.invariant.guards_some c.self.invariant.guards_most at.number c.self.view_is
    (sym (ap (λ (t : Table). finite.get t.metas c.args.n) c.self.view_is) ∙ get_by_index c.self.inside.guard_interval c.self.invariant.guards_some c.self.invariant.guards_most c.self.inside.chains.metas c.index_in-index.result c.args.n c.index_in-index.ensures.found c.index_in-index.ensures.opened ∙ sym c.in-Some.ensures)

pub returns-in_default : goal.returns-in_default
returns-in_default c =
    let listed = open_list c.args.n c.args.self.now c.requires in
    let at = stands c.self.inside.chains c.self.inside.parking.items c.self.inside.limit c.self.inside.guard_interval c.self.inside.slots c.args.n c.index_in-index.result c.args.self.now listed.0 c.self.invariant c.self.view_is c.index_in-index.ensures.opened listed.1 in
    absurd (none_there c.self.inside.chains.metas c.index_in-index.result at.below c.in_default.ensures)
