use Rattle.std.proofs.Common.{◌+◌, ◌≤◌, true≢false, sym, ◌∙◌, arith}
use Rattle.hm_outside.specs.Piece.{bytes_in}
use Rattle.hm_large_book.proofs.RunBytes.{piece_on, piece_there}
use Rattle.hm_large_book.proofs.bytes.is_run.Goals as goal

pub returns-then-not-is_all : goal.returns-then-not-is_all
returns-then-not-is_all c = (
  (λ t. absurd (true≢false (sym t))),
  (λ all. absurd (true≢false (sym (c.is_all.ensures.1 (piece_there c.args.bytes.now c.args.from c.args.len c.loop-done.done c.args.byte (bytes_in c.front-piece.result) c.front-piece.ensures.value c.loop-done.invariant.within c.front-piece.ensures.most all)) ∙ c.if-not-is_all.true))),
)

pub loop-done-preserved : goal.loop-done-preserved
loop-done-preserved c = record {
  within = (let h : c.loop-done.done + c.len-done.result ≤ c.args.len = omega (arith, c.front-piece.ensures.most, c.len-done.ensures, c.loop-done.invariant.within) in h);
  alike = rw c.len-done.ensures (piece_on c.args.bytes.now c.args.from c.loop-done.done c.args.byte (bytes_in c.front-piece.result) c.front-piece.ensures.value c.loop-done.invariant.alike (c.is_all.ensures.0 c.if-not-is_all.false));
}
