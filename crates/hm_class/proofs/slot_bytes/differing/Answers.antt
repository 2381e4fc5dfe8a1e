use Rattle.std.proofs.Common.{rules, ◌≢◌, Some, None, ◌∙◌, sym, ap, List, ℕ, Bool, cond, true≢false}
use Rattle.std.specs.Int.{to_le_bytes, from_le_bytes}
use mir.Syntax.{w64}
use Rattle.hm_class.proofs.SlotBytes.{other_number, not_number}
use Rattle.hm_class.proofs.slot_bytes.differing.Goals as goal

pub returns-else-matches-clause-value : goal.returns-else-matches-clause-value
returns-else-matches-clause-value c =
    let last : List ℕ = c.args.last in
    let apart : last ≢ to_le_bytes w64 c.args.canary = λ e. true≢false (sym (c.matches.ensures.1 e) ∙ c.if-matches.false) in
    ap (λ (n : ℕ). Some n) c.from_le_bytes.ensures
    ∙ ap (λ (b : Bool). cond b None (Some (from_le_bytes w64 last))) (sym (other_number last c.args.canary (search rules) (search rules) apart))

pub returns-else-matches-clause-other : goal.returns-else-matches-clause-other
returns-else-matches-clause-other c =
    let apart : c.args.last ≢ to_le_bytes w64 c.args.canary = λ e. true≢false (sym (c.matches.ensures.1 e) ∙ c.if-matches.false) in
    not_number c.args.last c.args.canary c.from_le_bytes.result (search rules) (search rules) apart c.from_le_bytes.ensures
