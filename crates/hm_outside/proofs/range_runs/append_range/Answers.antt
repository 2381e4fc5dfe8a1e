use Rattle.std.proofs.Common.{ℕ, ◌+◌, ◌-◌, List, ◌++◌, length, length-append, take, drop, refl, sym, ap, ◌∙◌, arith}
use Rattle.hm_model.specs.Runs.{expand}
use Rattle.hm_model.proofs.RunsOf.{length_expand}
use Rattle.hm_outside.specs.Piece.{bytes_in}
use Rattle.hm_outside.proofs.Pieces.{appended_on, reads_in}
use Rattle.hm_outside.proofs.range_runs.append_range.Goals as goal

pub append_piece-requires : goal.append_piece-requires
append_piece-requires g c = omega (arith, c.requires, c.in-Some.ensures.most, c.loop-done.invariant.count)

pub loop-done-preserved : goal.loop-done-preserved
loop-done-preserved g c =
    let piece = bytes_in c.in-Some.piece in let old = c.loop-done.runs in let new = c.append_piece.new.runs in
    let is = c.in_ok-append_piece.ensures.appended in record {
      within = omega (arith, c.in-Some.ensures.most, c.len-done.ensures);
      held = λ told some. (c.in-Some.ensures.value told).0;
      count = omega (arith, c.len-done.ensures, ap (λ (l : List ℕ). length l) is, length-append (expand old) piece, length_expand old, length_expand new, c.loop-done.invariant.count);
      read = λ told q b has lies. appended_on b (c.args.addr - q) c.loop-done.done piece (expand c.args.runs.now) (expand old) (expand new) ((c.in-Some.ensures.value told).1 q b has lies)
          (c.loop-done.invariant.read told q b has lies) is
          ∙ ap (λ (m : ℕ). expand c.args.runs.now ++ take (c.loop-done.done + m) (drop (c.args.addr - q) b)) (sym c.len-done.ensures);
    }

pub returns-clause-value : goal.returns-clause-value
returns-clause-value g c = λ told held.
    (let q = held.0 in let b : List ℕ = held.1 in let runs = g.P.Pages.runs c.args.pages.now in (
      refl,
      take c.args.len (drop (c.args.addr - q) b),
      reads_in runs c.args.addr c.args.len q b held.2 held.3,
      c.loop-done.invariant.read told q b held.2 held.3
          ∙ ap (λ (n : ℕ). expand c.args.runs.now ++ take n (drop (c.args.addr - q) b)) {x = c.loop-done.done} {y = c.args.len} (omega (arith, c.loop-done.invariant.within, c.loop-done-test.false)),
    ))

pub returns-clause-held : goal.returns-clause-held
returns-clause-held g c = λ told some yes. c.loop-done.invariant.held told (omega (arith, some, c.loop-done.invariant.within, c.loop-done-test.false))
