use Rattle.hm_slab_lists.specs.declared.slab.ListName.TheVariants.{Partial, Empty, Retired}
use Rattle.hm_slab_lists.proofs.Tables.{first_small}
use Rattle.hm_slab_lists.proofs.slab_lists.SlabLists.next_source.Goals as goal

pub number_of-requires-clause-index : goal.number_of-requires-clause-index
number_of-requires-clause-index c = first_small c.self.inside.chains c.self.inside.parking.items c.self.inside.limit c.self.inside.guard_interval c.self.inside.slots c.in-Some.index Partial c.self.invariant c.in-Some.ensures

pub number_of-requires-in-Some-first-clause-index : goal.number_of-requires-in-Some-first-clause-index
number_of-requires-in-Some-first-clause-index c =
    first_small c.self.inside.chains c.self.inside.parking.items c.self.inside.limit c.self.inside.guard_interval c.self.inside.slots c.in-Some-first.index Empty c.self.invariant c.in-Some-first.ensures

pub number_of-requires-in-Some-first-2-clause-index : goal.number_of-requires-in-Some-first-2-clause-index
number_of-requires-in-Some-first-2-clause-index c =
    first_small c.self.inside.chains c.self.inside.parking.items c.self.inside.limit c.self.inside.guard_interval c.self.inside.slots c.in-Some-first-2.index Retired c.self.invariant c.in-Some-first-2.ensures
