use Rattle.std.proofs.Common.{arith}
use Rattle.hm_slab_meta.specs.Uses.{Live, Quarantined}
use Rattle.hm_slab_meta.proofs.Slots.{reads}
use Rattle.hm_slab_meta.proofs.Changes.{quarantines, kept_then, viewed_then}
use Rattle.hm_slab_meta.proofs.slab_meta.SlabMeta.quarantine.Goals as goal

pub remove-requires : goal.remove-requires
remove-requires c = let at = reads c.self.inside.live c.self.inside.quarantined c.self.inside.condemned c.self.inside.given c.self.inside.slots c.self.inside.canary c.args.slot c.args.self.now Live c.self.view_is c.requires in omega (arith, at.below, c.self.invariant.few)

pub insert-requires : goal.insert-requires
insert-requires c = let at = reads c.self.inside.live c.self.inside.quarantined c.self.inside.condemned c.self.inside.given c.self.inside.slots c.self.inside.canary c.args.slot c.args.self.now Live c.self.view_is c.requires in omega (arith, at.below, c.self.invariant.few)

pub invariant_of-self : goal.invariant_of-self
invariant_of-self c =
    let at = reads c.self.inside.live c.self.inside.quarantined c.self.inside.condemned c.self.inside.given c.self.inside.slots c.self.inside.canary c.args.slot c.args.self.now Live c.self.view_is c.requires in
    kept_then c.self.inside.live c.self.inside.quarantined c.self.inside.condemned c.self.inside.given _ _ _ _ c.self.inside.slots c.args.slot Quarantined c.self.invariant at.below
    (quarantines c.self.inside.live c.self.inside.quarantined c.self.inside.condemned c.self.inside.given c.remove.new.self c.insert.new.self c.self.inside.slots c.args.slot c.self.invariant at c.remove.ensures c.insert.ensures)

pub returns : goal.returns
returns c =
    let at = reads c.self.inside.live c.self.inside.quarantined c.self.inside.condemned c.self.inside.given c.self.inside.slots c.self.inside.canary c.args.slot c.args.self.now Live c.self.view_is c.requires in
    viewed_then c.self.inside.live c.self.inside.quarantined c.self.inside.condemned c.self.inside.given _ _ _ _ c.self.inside.slots c.self.inside.canary c.args.slot c.args.self.now Quarantined c.self.invariant at.below c.self.view_is
    (quarantines c.self.inside.live c.self.inside.quarantined c.self.inside.condemned c.self.inside.given c.remove.new.self c.insert.new.self c.self.inside.slots c.args.slot c.self.invariant at c.remove.ensures c.insert.ensures)
