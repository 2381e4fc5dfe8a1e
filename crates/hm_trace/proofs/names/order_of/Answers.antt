use Rattle.std.proofs.Common.{ℕ, ◌+◌, sym, ◌∙◌, arith}
use Rattle.std.specs.Cmp.Lexicographic.{slice_cmp}
use Rattle.std.specs.Ordering.{nat_cmp}
use Rattle.std.proofs.Common.{drop}
use Rattle.hm_trace.proofs.ByWords.{from_place, decided, left_over, ended}
use Rattle.hm_trace.proofs.names.order_of.Goals as goal

pub returns-then-word-other : goal.returns-then-word-other
returns-then-word-other c =
    let at : ℕ = c.loop-at.at in
    let step = from_place at c.args.bytes.now c.args.others.now (omega arith) (omega arith) (λ k. c.fits-bytes k) (λ k. c.fits-others k) in
    let first = decided c.word_at-word.result c.word_at-other.result
    (slice_cmp nat_cmp (drop (at + 8) c.args.bytes.now) (drop (at + 8) c.args.others.now)) c.if-word-other.true in
    let left = c.loop-at.invariant.left in
    cc

pub loop-at-preserved : goal.loop-at-preserved
loop-at-preserved c =
    let at : ℕ = c.loop-at.at in
    let step = from_place at c.args.bytes.now c.args.others.now (omega arith) (omega arith) (λ k. c.fits-bytes k) (λ k. c.fits-others k) in
    let later = left_over c.word_at-word.result c.word_at-other.result
    (slice_cmp nat_cmp (drop (at + 8) c.args.bytes.now) (drop (at + 8) c.args.others.now)) c.if-word-other.false in
    record { within = omega arith; whole = omega arith; left = cc }

pub returns : goal.returns
returns c =
    sym (c.loop-at.invariant.left ∙ ended c.loop-at.at c.args.bytes.now c.args.others.now (omega arith) (omega arith))
