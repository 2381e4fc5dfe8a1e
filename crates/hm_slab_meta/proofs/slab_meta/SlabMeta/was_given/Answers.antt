use Rattle.std.proofs.Common.{◌∙◌, sym, ap, arith}
use Rattle.std.specs.Prelude.{option_map, Some, Bool}
use Rattle.hm_slab_meta.specs.Uses.{was_given}
use Rattle.hm_slab_meta.proofs.Slots.{slice_get-uses_of, given_bit}
use Rattle.hm_slab_meta.proofs.slab_meta.SlabMeta.was_given.Goals as goal

pub contains-requires : goal.contains-requires
contains-requires c = let there = slice_get-uses_of c.self.inside.live c.self.inside.quarantined c.self.inside.condemned c.self.inside.given c.self.inside.slots c.self.inside.canary c.args.slot c.args.self.now c.self.view_is c.requires in omega (arith, there.0, c.self.invariant.few)

pub returns : goal.returns
returns c =
    let there = slice_get-uses_of c.self.inside.live c.self.inside.quarantined c.self.inside.condemned c.self.inside.given c.self.inside.slots c.self.inside.canary c.args.slot c.args.self.now c.self.view_is c.requires in
    ap (option_map was_given) there.1
    ∙ ap (λ (b : Bool). Some b) (given_bit _ _ _ _ (c.self.invariant.each c.args.slot (omega (arith, there.0, c.self.invariant.few))) ∙ sym c.contains.ensures)
