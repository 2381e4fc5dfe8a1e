use Rattle.std.proofs.Common.{subst, sym, ap, ◌∙◌}
use Rattle.hm_slab_lists.specs.Chained.{Chained}
use Rattle.hm_slab_lists.specs.Table.{shown, IsTable}
use Rattle.hm_slab_lists.proofs.Tables.{grown_is, fresh_number, table_grown, shown_grown}
use Rattle.hm_slab_lists.proofs.slab_lists.SlabLists.open_fresh.Goals as goal

pub invariant_of-self : goal.invariant_of-self
invariant_of-self c =
    let number = fresh_number c.self.inside.chains c.self.inside.parking.items c.self.inside.limit c.self.inside.guard_interval c.self.inside.slots c.args.n c.args.self.now c.self.view_is c.requires.next in
    subst (λ (k : Chained). IsTable k c.self.inside.parking.items c.self.inside.limit c.self.inside.guard_interval c.self.inside.slots) (sym (grown_is c.self.inside.chains c.push.new.self c.put_first.new.self c.len-index.result c.self.inside.slots c.fresh.result c.len-index.ensures c.fresh.ensures c.push.ensures c.put_first.ensures))
    (table_grown c.self.inside.chains c.self.inside.parking.items c.self.inside.limit c.self.inside.guard_interval c.self.inside.slots c.args.n c.self.invariant number.0 number.1)

pub returns : goal.returns
returns c =
    let number = fresh_number c.self.inside.chains c.self.inside.parking.items c.self.inside.limit c.self.inside.guard_interval c.self.inside.slots c.args.n c.args.self.now c.self.view_is c.requires.next in
    ap (λ (k : Chained). shown k c.self.inside.parking.items c.self.inside.limit c.self.inside.guard_interval c.self.inside.slots) (grown_is c.self.inside.chains c.push.new.self c.put_first.new.self c.len-index.result c.self.inside.slots c.fresh.result c.len-index.ensures c.fresh.ensures c.push.ensures c.put_first.ensures)
    ∙ shown_grown c.self.inside.chains c.self.inside.parking.items c.self.inside.limit c.self.inside.guard_interval c.self.inside.slots c.args.n c.args.self.now c.self.invariant.guards_some c.self.invariant.guards_most number.0 c.self.view_is
