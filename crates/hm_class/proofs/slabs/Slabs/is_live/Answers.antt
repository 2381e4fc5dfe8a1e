use Rattle.std.proofs.Common.{◌∙◌, Some, Option, false, sym, ap, subst}
use Rattle.std.specs.Option.{option_map_or}
use Rattle.hm_slab_meta.specs.declared.slab_meta.SlotState.{SlotState}
use Rattle.hm_slab_meta.specs.declared.slab_meta.SlotState.TheVariants as state
use Rattle.hm_slab_meta.specs.Uses.{SlotUse}
use Rattle.hm_class.specs.Slabs.{Slabs}
use Rattle.hm_class.specs.Sources.{IsWithin}
use Rattle.hm_class.specs.Uses.{passes_at, lives}
use Rattle.hm_class.proofs.KindsOf.{live_by, not_live}
use Rattle.hm_class.proofs.Tables.{use_is, none_use, within_slots}
use Rattle.hm_class.proofs.slabs.Slabs.is_live.Goals as goal

pub state-requires : goal.state-requires
state-requires c =
    within_slots c.self.inside.lists c.args.slot.slab c.args.slot.index c.in-Some.meta.now c.self.invariant.0 (sym c.in-Some.ensures)
    (subst (λ (k : Slabs). IsWithin k.slabs c.args.slot.slab c.args.slot.index) (sym c.self.view_is) c.requires)

pub returns-in-Live : goal.returns-in-Live
returns-in-Live c =
    live_by _ state.Live (c.state.ensures ∙ ap (λ (s : SlotState). Some s) c.in-Live.is)
    ∙ ap (λ (o : Option SlotUse). option_map_or lives o false)
    (sym (use_is c.self.inside.lists c.args.slot.slab c.args.slot.index c.in-Some.meta.now c.self.invariant.0 (sym c.in-Some.ensures)))
    ∙ ap (λ (k : Slabs). passes_at lives k.slabs c.args.slot.slab c.args.slot.index) c.self.view_is

pub returns-in_default : goal.returns-in_default
returns-in_default c =
    sym (not_live c.state.result c.in_default.not-Live) ∙ live_by _ c.state.result c.state.ensures
    ∙ ap (λ (o : Option SlotUse). option_map_or lives o false)
    (sym (use_is c.self.inside.lists c.args.slot.slab c.args.slot.index c.in-Some.meta.now c.self.invariant.0 (sym c.in-Some.ensures)))
    ∙ ap (λ (k : Slabs). passes_at lives k.slabs c.args.slot.slab c.args.slot.index) c.self.view_is

pub returns-in-None : goal.returns-in-None
returns-in-None c =
    ap (λ (o : Option SlotUse). option_map_or lives o false)
    (sym (none_use c.self.inside.lists c.args.slot.slab c.self.invariant.0 (sym c.in-None.ensures) c.args.slot.index))
    ∙ ap (λ (k : Slabs). passes_at lives k.slabs c.args.slot.slab c.args.slot.index) c.self.view_is
