use Rattle.std.proofs.Common.{◌+◌, ◌-◌, ◌∙◌, ℕ, length, take, drop, sym, ap, subst}
use Rattle.std.specs.Map.{values_of}
use Rattle.hm_outside.specs.Piece.{bytes_in}
use Rattle.hm_outside.specs.PageRuns.{PieceGives}
use Rattle.hm_outside.proofs.Indices.{told_found, piece_here}
use Rattle.hm_outside.proofs.OwnEdits.{runs_is}
use Rattle.hm_outside.proofs.run_map.RunMap.piece.Goals as goal

pub returns-in_err-run-clause-value : goal.returns-in_err-run-clause-value
returns-in_err-run-clause-value g c =
    subst (λ r. PieceGives c.args.self.now.runs c.args.addr c.args.len c.args.from r) (sym c.from_residual.ensures)
    (λ q b has lies. c.in_err-run.ensures.nowhere q b (told_found g.R.HasPageRun.entry (values_of c.self.inside.runs.entries) c.args.self.now.runs q b (runs_is c.self.view_is) has) lies)

pub returns-clause-value : goal.returns-clause-value
returns-clause-value g c =
    let entry = g.R.HasPageRun.entry in
    let h = c.in_ok-run.ensures.run in
    let x = c.in_ok-run.run'.now in
    piece_here entry (values_of c.self.inside.runs.entries) c.args.self.now.runs h.index c.args.addr c.args.len c.args.from x (bytes_in c.front.result) c.self.invariant.ordered (runs_is c.self.view_is) h.here h.last h.lies
    (c.front.ensures.value ∙ ap (λ (q : ℕ). take (length (bytes_in c.front.result)) (drop (c.args.addr - q + c.args.from) (entry x).1)) c.first.ensures)
