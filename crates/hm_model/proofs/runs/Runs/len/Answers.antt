use Rattle.std.proofs.Common.{◌≡◌, drop, [], sym, ap, ◌∙◌, arith}
use Rattle.std.proofs.lemmas.List.{drop_all}
use Rattle.hm_model.specs.Runs.{total}
use Rattle.hm_model.proofs.RunsOf.{length_expand}
use Rattle.hm_model.proofs.runs.Runs.len.Goals as goal

pub returns-clause-value : goal.returns-clause-value
returns-clause-value c =
    let none : drop c.loop-len.len-index c.as_slice-len-items.result.now ≡ [] = drop_all c.loop-len.len-index c.as_slice-len-items.result.now c.loop-len-test.false in
    let all : c.loop-len.bytes ≡ total c.as_slice-len-items.result.now = omega (arith, c.loop-len.invariant, ap total none) in
    all ∙ ap total (c.as_slice-len-items.ensures ∙ c.self.view_is)

pub returns-clause-bytes : goal.returns-clause-bytes
returns-clause-bytes c = returns-clause-value c ∙ sym (length_expand c.args.self.now)
