use Rattle.std.proofs.Common.{◌∙◌, sym, ap, arith, length}
use Rattle.hm_slab_meta.specs.Uses.{SlabUse}
use Rattle.hm_slab_meta.proofs.Slots.{marks, length-uses_of}
use Rattle.hm_slab_meta.proofs.slab_meta.SlabMeta.taken.Goals as goal

pub returns-clause-few : goal.returns-clause-few
returns-clause-few c =
    let long = sym (ap (λ (s : SlabUse). length s.slots) c.self.view_is) ∙ length-uses_of c.self.inside.live c.self.inside.quarantined c.self.inside.condemned c.self.inside.given c.self.inside.slots in
    omega (arith, long, c.self.invariant.few)

pub returns-clause-marks : goal.returns-clause-marks
returns-clause-marks c =
    marks c.self.inside.live c.self.inside.quarantined c.self.inside.condemned c.self.inside.given c.union.result c.union-2.result c.self.inside.slots c.self.inside.canary c.args.self.now c.self.invariant c.self.view_is c.union.ensures c.union-2.ensures
