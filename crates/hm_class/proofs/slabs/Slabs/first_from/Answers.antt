use Rattle.std.proofs.Common.{◌∙◌, None, Some, Option, sym, ap, subst}
use Rattle.std.specs.Option.{option_and_then}
use Rattle.hm_class.specs.Slabs.{Slabs}
use Rattle.hm_class.specs.Sources.{IsWithin}
use Rattle.hm_slab_meta.specs.Uses.{first_from}
use Rattle.hm_class.specs.Uses.{SlabUse, first_at}
use Rattle.hm_class.proofs.Tables.{slab_by, within_slots}
use Rattle.hm_class.proofs.slabs.Slabs.first_from.Goals as goal

pub first_free_from-requires : goal.first_free_from-requires
first_free_from-requires c =
    within_slots c.self.inside.lists c.args.slab c.args.start c.in_ok-meta.field-0.now c.self.invariant.0 (sym c.in_ok-meta.ensures)
    (subst (λ (k : Slabs). IsWithin k.slabs c.args.slab c.args.start) (sym c.self.view_is) c.requires)

pub returns : goal.returns
returns c =
    c.first_free_from.ensures.first
    ∙ ap (λ (o : Option SlabUse). option_and_then (λ (b : SlabUse). first_from c.args.start b.slots) o)
    (sym (slab_by c.self.inside.lists c.args.slab c.self.invariant.0 (Some c.in_ok-meta.field-0.now) (sym c.in_ok-meta.ensures)))
    ∙ ap (λ (k : Slabs). first_at k.slabs c.args.slab c.args.start) c.self.view_is

pub returns-in_err-meta : goal.returns-in_err-meta
returns-in_err-meta c =
    c.from_residual.ensures
    ∙ ap (λ (o : Option SlabUse). option_and_then (λ (b : SlabUse). first_from c.args.start b.slots) o)
    (sym (slab_by c.self.inside.lists c.args.slab c.self.invariant.0 None (sym c.in_err-meta.ensures)))
    ∙ ap (λ (k : Slabs). first_at k.slabs c.args.slab c.args.start) c.self.view_is
