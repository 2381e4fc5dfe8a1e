use Rattle.std.proofs.Common.{subst, sym, ap, ◌∙◌, arith}
use Rattle.hm_slab_lists.specs.declared.slab.ListName.TheVariants.{Retired}
use Rattle.hm_slab_lists.specs.Chained.{Chained}
use Rattle.hm_slab_lists.specs.Table.{shown, IsTable}
use Rattle.hm_slab_lists.proofs.Tables.{stands, front_member, then_gone, opened_is, table_opened, shown_opened}
use Rattle.hm_slab_lists.proofs.slab_lists.SlabLists.open_retired.Goals as goal

pub take_out-requires : goal.take_out-requires
take_out-requires c =
    (stands c.self.inside.chains c.self.inside.parking.items c.self.inside.limit c.self.inside.guard_interval c.self.inside.slots c.args.n c.index_in-index.result c.args.self.now Retired c.self.invariant c.self.view_is c.index_in-index.ensures.opened (front_member c.args.n c.args.self.now.lists.retired c.requires)).below

pub put_first-requires-clause-at : goal.put_first-requires-clause-at
put_first-requires-clause-at c =
    let at = stands c.self.inside.chains c.self.inside.parking.items c.self.inside.limit c.self.inside.guard_interval c.self.inside.slots c.args.n c.index_in-index.result c.args.self.now Retired c.self.invariant c.self.view_is c.index_in-index.ensures.opened (front_member c.args.n c.args.self.now.lists.retired c.requires) in
    let same = then_gone c.self.inside.chains c.take_out.new.self c.index_in-index.result c.take_out.ensures.changed in
    omega (arith, at.below, same)

pub invariant_of-self : goal.invariant_of-self
invariant_of-self c =
    let at = stands c.self.inside.chains c.self.inside.parking.items c.self.inside.limit c.self.inside.guard_interval c.self.inside.slots c.args.n c.index_in-index.result c.args.self.now Retired c.self.invariant c.self.view_is c.index_in-index.ensures.opened (front_member c.args.n c.args.self.now.lists.retired c.requires) in
    subst (λ (k : Chained). IsTable k c.self.inside.parking.items c.self.inside.limit c.self.inside.guard_interval c.self.inside.slots) (sym (opened_is c.self.inside.chains c.take_out.new.self c.put_first.new.self c.index_in-index.result c.take_out.ensures.changed c.put_first.ensures))
    (table_opened c.self.inside.chains c.self.inside.parking.items c.self.inside.limit c.self.inside.guard_interval c.self.inside.slots c.args.n c.index_in-index.result c.self.invariant at)

pub returns : goal.returns
returns c =
    let at = stands c.self.inside.chains c.self.inside.parking.items c.self.inside.limit c.self.inside.guard_interval c.self.inside.slots c.args.n c.index_in-index.result c.args.self.now Retired c.self.invariant c.self.view_is c.index_in-index.ensures.opened (front_member c.args.n c.args.self.now.lists.retired c.requires) in
    ap (λ (k : Chained). shown k c.self.inside.parking.items c.self.inside.limit c.self.inside.guard_interval c.self.inside.slots) (opened_is c.self.inside.chains c.take_out.new.self c.put_first.new.self c.index_in-index.result c.take_out.ensures.changed c.put_first.ensures)
    ∙ shown_opened c.self.inside.chains c.self.inside.parking.items c.self.inside.limit c.self.inside.guard_interval c.self.inside.slots c.args.n c.index_in-index.result c.args.self.now c.self.invariant.guards_some c.self.invariant.guards_most at.number c.self.view_is
