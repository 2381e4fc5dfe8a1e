use Rattle.std.proofs.Common.{◌∙◌, sym, ap, arith}
use Rattle.std.proofs.lemmas.Option.{get_or_from_slice_get}
use Rattle.hm_slab_meta.specs.Uses.{SlotUse, Never, Condemned, was_given, with_use}
use Rattle.hm_slab_meta.proofs.Slots.{reads, passing}
use Rattle.hm_slab_meta.proofs.Changes.{condemns, kept_then, viewed_then}
use Rattle.hm_slab_meta.proofs.slab_meta.SlabMeta.condemn.Goals as goal

pub insert-requires : goal.insert-requires
insert-requires c =
    let free = passing _ c.requires in
    let at = reads c.self.inside.live c.self.inside.quarantined c.self.inside.condemned c.self.inside.given c.self.inside.slots c.self.inside.canary c.args.slot c.args.self.now free.0 c.self.view_is free.1 in
    omega (arith, at.below, c.self.invariant.few)

pub invariant_of-self : goal.invariant_of-self
invariant_of-self c =
    let free = passing _ c.requires in
    let at = reads c.self.inside.live c.self.inside.quarantined c.self.inside.condemned c.self.inside.given c.self.inside.slots c.self.inside.canary c.args.slot c.args.self.now free.0 c.self.view_is free.1 in
    kept_then c.self.inside.live c.self.inside.quarantined c.self.inside.condemned c.self.inside.given _ _ _ _ c.self.inside.slots c.args.slot (Condemned (was_given free.0)) c.self.invariant at.below
    (condemns c.self.inside.live c.self.inside.quarantined c.self.inside.condemned c.self.inside.given c.insert.new.self c.self.inside.slots c.args.slot free.0 c.self.invariant at free.2 c.insert.ensures)

pub returns : goal.returns
returns c =
    let free = passing _ c.requires in
    let at = reads c.self.inside.live c.self.inside.quarantined c.self.inside.condemned c.self.inside.given c.self.inside.slots c.self.inside.canary c.args.slot c.args.self.now free.0 c.self.view_is free.1 in
    viewed_then c.self.inside.live c.self.inside.quarantined c.self.inside.condemned c.self.inside.given _ _ _ _ c.self.inside.slots c.self.inside.canary c.args.slot c.args.self.now (Condemned (was_given free.0)) c.self.invariant at.below c.self.view_is
    (condemns c.self.inside.live c.self.inside.quarantined c.self.inside.condemned c.self.inside.given c.insert.new.self c.self.inside.slots c.args.slot free.0 c.self.invariant at free.2 c.insert.ensures)
    ∙ ap (λ (u : SlotUse). with_use c.args.self.now c.args.slot (Condemned (was_given u))) (sym (get_or_from_slice_get c.args.self.now.slots c.args.slot free.0 Never free.1))
