use Rattle.std.proofs.Common.{ℕ, get_or, true≢false, refl, sym, ◌∙◌, arith}
use Rattle.hm_large_book.proofs.RunBytes.{next_length, next_within, run_alike, run_there}
use Rattle.hm_large_book.proofs.bytes.are_bytes.Goals as goal

pub overflow_add-end : goal.overflow_add-end
overflow_add-end c = (let run : ℕ × ℕ = get_or c.args.pairs.now c.loop-byte.byte-index (0, 0) in
    omega (arith, next_within c.args.pairs.now c.loop-byte.byte-index run.0 run.1 c.loop-byte-test.true refl, c.requires.most, c.requires.low, c.loop-byte.invariant.at_is))

pub is_run-requires-clause-within : goal.is_run-requires-clause-within
is_run-requires-clause-within c = (let run : ℕ × ℕ = get_or c.args.pairs.now c.loop-byte.byte-index (0, 0) in
    omega (arith, next_within c.args.pairs.now c.loop-byte.byte-index run.0 run.1 c.loop-byte-test.true refl, c.requires.within, c.loop-byte.invariant.at_is))

pub is_run-requires-clause-most : goal.is_run-requires-clause-most
is_run-requires-clause-most c = (let run : ℕ × ℕ = get_or c.args.pairs.now c.loop-byte.byte-index (0, 0) in
    omega (arith, next_within c.args.pairs.now c.loop-byte.byte-index run.0 run.1 c.loop-byte-test.true refl, c.requires.most))

pub is_run-requires-clause-low : goal.is_run-requires-clause-low
is_run-requires-clause-low c = (let run : ℕ × ℕ = get_or c.args.pairs.now c.loop-byte.byte-index (0, 0) in
    omega (arith, next_within c.args.pairs.now c.loop-byte.byte-index run.0 run.1 c.loop-byte-test.true refl, c.requires.most, c.requires.low, c.loop-byte.invariant.at_is))

pub returns-then-not-is_run : goal.returns-then-not-is_run
returns-then-not-is_run c = (
  (λ t. absurd (true≢false (sym t))),
  (λ all. let run : ℕ × ℕ = get_or c.args.pairs.now c.loop-byte.byte-index (0, 0) in
      absurd (true≢false (sym (c.is_run.ensures.1 (run_there c.args.pairs.now c.loop-byte.byte-index run.0 run.1 c.loop-byte-test.true refl c.args.bytes.now c.args.from c.loop-byte.at c.loop-byte.invariant.at_is c.requires.within all)) ∙ c.if-not-is_run.true))),
)

pub loop-byte-preserved : goal.loop-byte-preserved
loop-byte-preserved c =
    let run : ℕ × ℕ = get_or c.args.pairs.now c.loop-byte.byte-index (0, 0) in
    record {
      at_is = omega (arith, next_length c.args.pairs.now c.loop-byte.byte-index run.0 run.1 c.loop-byte-test.true refl, c.loop-byte.invariant.at_is);
      alike = run_alike c.args.pairs.now c.loop-byte.byte-index run.0 run.1 c.loop-byte-test.true refl c.args.bytes.now c.args.from c.loop-byte.at c.loop-byte.invariant.at_is c.loop-byte.invariant.alike (c.is_run.ensures.0 c.if-not-is_run.false);
    }
