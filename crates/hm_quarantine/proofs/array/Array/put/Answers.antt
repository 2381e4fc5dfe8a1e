use Rattle.std.proofs.Common.{◌≡◌, Option, ℕ, ◌++◌, ◌∷◌, [], ◌-◌, vec_len, length, replicate, slice_set, take, Some, None, ap, ◌∙◌, arith}
use Rattle.std.proofs.lemmas.List.{take_all, length-append, length-replicate}
use Rattle.hm_quarantine.specs.Quarantine.{cells}
use Rattle.hm_quarantine.proofs.Arrays.{set_first, set_later}
use Rattle.hm_quarantine.proofs.array.Array.put.Goals as goal

pub returns-then-index-len-clause-after : goal.returns-then-index-len-clause-after
returns-then-index-len-clause-after c =
    ap (λ x. cells c.self.inside.len (slice_set c.self.inside.written.items c.args.index x)) c.replace.ensures.after
    ∙ (set_first c.self.inside.len c.self.inside.written.items c.args.index (Some c.args.slot) (omega (arith, c.if-index-len.true, c.len.ensures))
    ∙ ap (λ l. slice_set l c.args.index (Some c.args.slot)) c.self.view_is)

pub returns-clause-after : goal.returns-clause-after
returns-clause-after c =
    let first = c.self.inside.written.items in
    let kept : take c.args.index first ≡ first = take_all c.args.index first (omega (arith, c.if-index-len.false, c.len.ensures)) in
    ap (cells c.self.inside.len) (c.push_reserved.ensures.items ∙ ap (λ l. l ++ Some c.args.slot ∷ []) (c.in-Ok.ensures.items ∙ ap (λ l. l ++ replicate (c.args.index - vec_len c.self.inside.written) None) kept))
    ∙ (set_later c.self.inside.len first (vec_len c.self.inside.written) c.args.index (Some c.args.slot) (omega (arith, c.self.inside.written.ok)) (omega (arith, c.if-index-len.false, c.len.ensures))
    (omega (arith, c.requires, ap length c.self.view_is, c.self.invariant.0, length-append first (replicate (c.self.inside.len - length first) None), length-replicate {A = Option ℕ} (c.self.inside.len - length first) None))
    ∙ ap (λ l. slice_set l c.args.index (Some c.args.slot)) c.self.view_is)
