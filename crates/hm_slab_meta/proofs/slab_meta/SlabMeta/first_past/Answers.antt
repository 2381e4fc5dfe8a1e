use Rattle.std.proofs.Common.{ℕ, ◌∙◌, sym, ap, length, arith}
use Rattle.std.specs.Prelude.{Option, Some, None, IfNone}
use Rattle.hm_slab_meta.specs.Uses.{SlabUse}
use Rattle.hm_slab_meta.proofs.Slots.{length-uses_of}
use Rattle.hm_slab_meta.proofs.Searches.{first_free, all_taken}
use Rattle.hm_slab_meta.proofs.slab_meta.SlabMeta.first_past.Goals as goal

either : (r : Option ℕ) (Holds : Type 0) → Holds → IfNone r Holds
either None Holds h = h
either (Some slot) Holds h = tt

pub first_clear_from-requires : goal.first_clear_from-requires
first_clear_from-requires c = omega arith

pub returns-in_err-slot-clause-none : goal.returns-in_err-slot-clause-none
returns-in_err-slot-clause-none c =
    either c.from_residual.result _ (all_taken c.args.taken.now c.args.self.now.slots c.args.from (length c.args.self.now.slots) c.requires.taken c.requires.few (λ i le lt. c.in_err-slot.ensures.none i le (omega (arith, lt, c.requires.few))))

pub returns-then-slot-self-clause-found : goal.returns-then-slot-self-clause-found
returns-then-slot-self-clause-found c =
    let long = sym (ap (λ (s : SlabUse). length s.slots) c.self.view_is) ∙ length-uses_of c.self.inside.live c.self.inside.quarantined c.self.inside.condemned c.self.inside.given c.self.inside.slots in
    first_free c.args.taken.now c.args.self.now.slots c.args.from c.in_ok-slot.slot c.requires.taken (omega (arith, long, c.if-slot-self.true)) c.in_ok-slot.ensures.found

pub returns-else-slot-self-clause-none : goal.returns-else-slot-self-clause-none
returns-else-slot-self-clause-none c =
    let long = sym (ap (λ (s : SlabUse). length s.slots) c.self.view_is) ∙ length-uses_of c.self.inside.live c.self.inside.quarantined c.self.inside.condemned c.self.inside.given c.self.inside.slots in
    all_taken c.args.taken.now c.args.self.now.slots c.args.from (length c.args.self.now.slots) c.requires.taken c.requires.few
    (λ i le lt. c.in_ok-slot.ensures.found.before i le (omega (arith, lt, long, c.if-slot-self.false)))
