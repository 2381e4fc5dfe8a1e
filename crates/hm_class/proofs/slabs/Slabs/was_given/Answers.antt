use Rattle.std.proofs.Common.{◌∙◌, Option, false, sym, ap, subst}
use Rattle.std.specs.Option.{option_map_or}
use Rattle.hm_slab_meta.specs.Uses.{SlotUse, was_given}
use Rattle.hm_class.specs.Slabs.{Slabs}
use Rattle.hm_class.specs.Sources.{IsWithin}
use Rattle.hm_class.specs.Uses.{passes_at}
use Rattle.hm_class.proofs.KindsOf.{given_by}
use Rattle.hm_class.proofs.Tables.{use_is, none_use, within_slots}
use Rattle.hm_class.proofs.slabs.Slabs.was_given.Goals as goal

pub was_given-requires : goal.was_given-requires
was_given-requires c =
    within_slots c.self.inside.lists c.args.slot.slab c.args.slot.index c.in-Some.meta.now c.self.invariant.0 (sym c.in-Some.ensures)
    (subst (λ (k : Slabs). IsWithin k.slabs c.args.slot.slab c.args.slot.index) (sym c.self.view_is) c.requires)

pub returns-in-Some : goal.returns-in-Some
returns-in-Some c =
    given_by _ c.was_given.result c.was_given.ensures
    ∙ ap (λ (o : Option SlotUse). option_map_or was_given o false)
    (sym (use_is c.self.inside.lists c.args.slot.slab c.args.slot.index c.in-Some.meta.now c.self.invariant.0 (sym c.in-Some.ensures)))
    ∙ ap (λ (k : Slabs). passes_at was_given k.slabs c.args.slot.slab c.args.slot.index) c.self.view_is

pub returns-in-None : goal.returns-in-None
returns-in-None c =
    ap (λ (o : Option SlotUse). option_map_or was_given o false)
    (sym (none_use c.self.inside.lists c.args.slot.slab c.self.invariant.0 (sym c.in-None.ensures) c.args.slot.index))
    ∙ ap (λ (k : Slabs). passes_at was_given k.slabs c.args.slot.slab c.args.slot.index) c.self.view_is
