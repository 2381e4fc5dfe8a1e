use Rattle.std.proofs.Common.{arith}
use Rattle.hm_slab_meta.specs.Uses.{Quarantined, Free}
use Rattle.hm_slab_meta.proofs.Slots.{reads}
use Rattle.hm_slab_meta.proofs.Changes.{releases, kept_then, viewed_then}
use Rattle.hm_slab_meta.proofs.slab_meta.SlabMeta.release.Goals as goal

pub remove-requires : goal.remove-requires
remove-requires c = let at = reads c.self.inside.live c.self.inside.quarantined c.self.inside.condemned c.self.inside.given c.self.inside.slots c.self.inside.canary c.args.slot c.args.self.now Quarantined c.self.view_is c.requires in omega (arith, at.below, c.self.invariant.few)

pub invariant_of-self : goal.invariant_of-self
invariant_of-self c =
    let at = reads c.self.inside.live c.self.inside.quarantined c.self.inside.condemned c.self.inside.given c.self.inside.slots c.self.inside.canary c.args.slot c.args.self.now Quarantined c.self.view_is c.requires in
    kept_then c.self.inside.live c.self.inside.quarantined c.self.inside.condemned c.self.inside.given _ _ _ _ c.self.inside.slots c.args.slot Free c.self.invariant at.below
    (releases c.self.inside.live c.self.inside.quarantined c.self.inside.condemned c.self.inside.given c.remove.new.self c.self.inside.slots c.args.slot c.self.invariant at c.remove.ensures)

pub returns : goal.returns
returns c =
    let at = reads c.self.inside.live c.self.inside.quarantined c.self.inside.condemned c.self.inside.given c.self.inside.slots c.self.inside.canary c.args.slot c.args.self.now Quarantined c.self.view_is c.requires in
    viewed_then c.self.inside.live c.self.inside.quarantined c.self.inside.condemned c.self.inside.given _ _ _ _ c.self.inside.slots c.self.inside.canary c.args.slot c.args.self.now Free c.self.invariant at.below c.self.view_is
    (releases c.self.inside.live c.self.inside.quarantined c.self.inside.condemned c.self.inside.given c.remove.new.self c.self.inside.slots c.args.slot c.self.invariant at c.remove.ensures)
