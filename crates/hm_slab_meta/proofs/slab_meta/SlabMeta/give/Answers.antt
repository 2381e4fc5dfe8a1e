use Rattle.std.proofs.Common.{arith}
use Rattle.hm_slab_meta.specs.Uses.{Live}
use Rattle.hm_slab_meta.proofs.Slots.{reads, passing}
use Rattle.hm_slab_meta.proofs.Changes.{gives, kept_then, viewed_then}
use Rattle.hm_slab_meta.proofs.slab_meta.SlabMeta.give.Goals as goal

pub insert-requires : goal.insert-requires
insert-requires c =
    let free = passing _ c.requires in
    let at = reads c.self.inside.live c.self.inside.quarantined c.self.inside.condemned c.self.inside.given c.self.inside.slots c.self.inside.canary c.args.slot c.args.self.now free.0 c.self.view_is free.1 in
    omega (arith, at.below, c.self.invariant.few)

pub insert-requires-2 : goal.insert-requires-2
insert-requires-2 c =
    let free = passing _ c.requires in
    let at = reads c.self.inside.live c.self.inside.quarantined c.self.inside.condemned c.self.inside.given c.self.inside.slots c.self.inside.canary c.args.slot c.args.self.now free.0 c.self.view_is free.1 in
    omega (arith, at.below, c.self.invariant.few)

pub invariant_of-self : goal.invariant_of-self
invariant_of-self c =
    let free = passing _ c.requires in
    let at = reads c.self.inside.live c.self.inside.quarantined c.self.inside.condemned c.self.inside.given c.self.inside.slots c.self.inside.canary c.args.slot c.args.self.now free.0 c.self.view_is free.1 in
    kept_then c.self.inside.live c.self.inside.quarantined c.self.inside.condemned c.self.inside.given _ _ _ _ c.self.inside.slots c.args.slot Live c.self.invariant at.below
    (gives c.self.inside.live c.self.inside.quarantined c.self.inside.condemned c.self.inside.given c.insert.new.self c.insert-2.new.self c.self.inside.slots c.args.slot free.0 c.self.invariant at free.2 c.insert.ensures c.insert-2.ensures)

pub returns : goal.returns
returns c =
    let free = passing _ c.requires in
    let at = reads c.self.inside.live c.self.inside.quarantined c.self.inside.condemned c.self.inside.given c.self.inside.slots c.self.inside.canary c.args.slot c.args.self.now free.0 c.self.view_is free.1 in
    viewed_then c.self.inside.live c.self.inside.quarantined c.self.inside.condemned c.self.inside.given _ _ _ _ c.self.inside.slots c.self.inside.canary c.args.slot c.args.self.now Live c.self.invariant at.below c.self.view_is
    (gives c.self.inside.live c.self.inside.quarantined c.self.inside.condemned c.self.inside.given c.insert.new.self c.insert-2.new.self c.self.inside.slots c.args.slot free.0 c.self.invariant at free.2 c.insert.ensures c.insert-2.ensures)
