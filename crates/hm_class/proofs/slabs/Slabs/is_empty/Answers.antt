use Rattle.std.proofs.Common.{◌∙◌, Bool, Some, None, sym, ap}
use Rattle.hm_class_rules.specs.Kinds.{Kind, Empty, same_kind}
use Rattle.hm_class.specs.Slabs.{Slabs, shown}
use Rattle.hm_class.specs.Uses.{kind_at, kind_of}
use Rattle.hm_class.proofs.KindsOf.{empty_kind_is}
use Rattle.hm_class.proofs.Tables.{kind_shown, slots_some}
use Rattle.hm_class.proofs.slabs.Slabs.is_empty.Goals as goal

pub returns-then-is_open : goal.returns-then-is_open
returns-then-is_open c =
    let t = c.self.inside.lists in
    c.is_all_free.ensures ∙ empty_kind_is c.in-Some.meta.now (slots_some t c.args.slab c.self.invariant.0 c.in-Some.meta.now (sym c.in-Some.ensures))
    ∙ ap (λ (b : Bool). same_kind (kind_of (shown b c.in-Some.meta.now)) Empty) (sym c.if-is_open.true ∙ c.is_open.ensures)
    ∙ ap (λ (k : Kind). same_kind k Empty) (sym (kind_shown t c.args.slab c.self.invariant.0 (Some c.in-Some.meta.now) (sym c.in-Some.ensures)))
    ∙ ap (λ (k : Slabs). same_kind (kind_at k.slabs c.args.slab) Empty) c.self.view_is

pub returns-else-is_open : goal.returns-else-is_open
returns-else-is_open c =
    let t = c.self.inside.lists in
    c.if-is_open.false
    ∙ ap (λ (b : Bool). same_kind (kind_of (shown b c.in-Some.meta.now)) Empty) (sym c.if-is_open.false ∙ c.is_open.ensures)
    ∙ ap (λ (k : Kind). same_kind k Empty) (sym (kind_shown t c.args.slab c.self.invariant.0 (Some c.in-Some.meta.now) (sym c.in-Some.ensures)))
    ∙ ap (λ (k : Slabs). same_kind (kind_at k.slabs c.args.slab) Empty) c.self.view_is

pub returns-in-None : goal.returns-in-None
returns-in-None c =
    let t = c.self.inside.lists in
    ap (λ (k : Kind). same_kind k Empty) (sym (kind_shown t c.args.slab c.self.invariant.0 None (sym c.in-None.ensures)))
    ∙ ap (λ (k : Slabs). same_kind (kind_at k.slabs c.args.slab) Empty) c.self.view_is
