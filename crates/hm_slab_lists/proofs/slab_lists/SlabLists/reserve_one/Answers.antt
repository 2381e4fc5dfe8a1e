use Rattle.std.proofs.Common.{List, length, ap}
use Rattle.hm_slab_meta.specs.Uses.{SlabUse}
use Rattle.hm_slab_lists.proofs.Tables.{table_same}
use Rattle.hm_slab_lists.proofs.slab_lists.SlabLists.reserve_one.Goals as goal

pub invariant_of-self : goal.invariant_of-self
invariant_of-self c =
    table_same c.self.inside.chains c.reserve_one.new.self c.self.inside.parking.items c.self.inside.limit c.self.inside.guard_interval c.self.inside.slots c.self.invariant
    (ap (λ (l : List SlabUse). length l) c.reserve_one.ensures.metas) c.reserve_one.ensures.lists

pub invariant_of-self-2 : goal.invariant_of-self-2
invariant_of-self-2 c =
    table_same c.self.inside.chains c.reserve_one.new.self c.self.inside.parking.items c.self.inside.limit c.self.inside.guard_interval c.self.inside.slots c.self.invariant
    (ap (λ (l : List SlabUse). length l) c.reserve_one.ensures.metas) c.reserve_one.ensures.lists
