use Rattle.std.proofs.Common.{ℕ, List, length, replicate, ap, arith, length-append}
use Rattle.std.proofs.lemmas.List.{length-replicate}
use Rattle.hm_model.specs.Runs.{expand, total}
use Rattle.hm_model.proofs.RunsOf.{length_expand}
use Rattle.hm_model.proofs.runs.Runs.append_same.Goals as goal

pub returns-clause-count : goal.returns-clause-count
returns-clause-count c =
    let old = c.self.inside.pairs.items in
    let new = c.append_run.new.pairs.items in
    let bytes = replicate c.args.len c.args.byte in
    omega (arith, ap (λ (x : List ℕ). length x) c.in_ok-append_run.ensures.appended, length-append (expand old) bytes, length-replicate c.args.len c.args.byte, length_expand old, length_expand new, ap total c.self.view_is)
