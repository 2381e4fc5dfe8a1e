use Rattle.std.proofs.Common.{ℕ, sym, subst}
use Rattle.hm_slab_lists.specs.Table.{IsTable}
use Rattle.hm_slab_lists.proofs.Tables.{table_new}
use Rattle.hm_slab_lists.proofs.slab_lists.SlabLists.build.Goals as goal

pub invariant_of-result : goal.invariant_of-result
invariant_of-result c =
    subst (λ (g : ℕ). IsTable c.new.result c.in_ok-parking.parking.items c.args.limit g c.args.slots) (sym c.from.ensures)
    (table_new c.new.result c.in_ok-parking.parking.items c.args.limit c.args.guard_interval c.args.slots c.args.park_length c.requires.limit c.requires.guards_some
    c.requires.guards_most c.requires.slots_some c.requires.slots_most c.new.ensures c.in_ok-parking.ensures)
