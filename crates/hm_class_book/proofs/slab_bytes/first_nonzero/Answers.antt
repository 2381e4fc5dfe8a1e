use Rattle.std.proofs.Common.{◌+◌, ◌≤◌, ◌<◌, ℕ, Some, length, take, drop, sym, ap, ◌∙◌, arith}
use Rattle.std.proofs.lemmas.List.{length-take}
use Rattle.hm_outside.specs.Piece.{bytes_in}
use Rattle.hm_class_book.proofs.Stains.{first_none, zero_on, found_in}
use Rattle.hm_class_book.proofs.slab_bytes.first_nonzero.Goals as goal

pub returns-in-Some : goal.returns-in-Some
returns-in-Some c =
    let found = c.in-Some.ensures in
    sym (found_in c.args.run.now c.args.from c.args.len c.loop-done.done (bytes_in c.front-piece.result) c.front-piece.ensures.value c.loop-done.invariant.within c.front-piece.ensures.most
    c.in-Some.index c.requires.within found.found.0 (λ e. found.found.1 (found.value ∙ e)) found.before c.loop-done.invariant.zero
    ∙ ap (λ (x : ℕ). Some (c.loop-done.done + c.in-Some.index, x)) (sym found.value))

pub loop-done-preserved : goal.loop-done-preserved
loop-done-preserved c = record {
  within = omega (arith, c.front-piece.ensures.most, c.loop-done.invariant.within, c.len-done.ensures);
  zero = λ k lt. zero_on c.args.run.now c.args.from c.args.len c.loop-done.done (bytes_in c.front-piece.result) c.front-piece.ensures.value c.loop-done.invariant.within c.front-piece.ensures.most
      c.in_default.ensures.none c.loop-done.invariant.zero k (omega (arith, lt, c.len-done.ensures));
}

pub returns : goal.returns
returns c = sym (first_none (take c.args.len (drop c.args.from c.args.run.now)) (λ k lt. c.loop-done.invariant.zero k (omega (arith, lt, c.loop-done-test.false, length-take c.args.len (drop c.args.from c.args.run.now)))))
