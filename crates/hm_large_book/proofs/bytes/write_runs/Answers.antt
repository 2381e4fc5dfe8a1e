use Rattle.std.proofs.Common.{ℕ, get_or, refl, arith}
use Rattle.hm_large_book.proofs.RunBytes.{next_length, next_within, runs_on, runs_fit}
use Rattle.hm_large_book.proofs.bytes.write_runs.Goals as goal

pub overflow_add-end : goal.overflow_add-end
overflow_add-end c = (let run : ℕ × ℕ = get_or c.args.pairs.now c.loop-byte.byte-index (0, 0) in
    omega (arith, next_within c.args.pairs.now c.loop-byte.byte-index run.0 run.1 c.loop-byte-test.true refl, c.requires.most, c.requires.low, c.loop-byte.invariant.at_is))

pub fill-requires : goal.fill-requires
fill-requires c = (let run : ℕ × ℕ = get_or c.args.pairs.now c.loop-byte.byte-index (0, 0) in
    runs_fit c.args.pairs.now c.loop-byte.byte-index run.0 run.1 c.loop-byte-test.true refl c.args.bytes.now c.args.from c.loop-byte.at c.loop-byte.bytes c.loop-byte.invariant.at_is c.requires.within c.loop-byte.invariant.so_far)

pub loop-byte-preserved : goal.loop-byte-preserved
loop-byte-preserved c =
    let run : ℕ × ℕ = get_or c.args.pairs.now c.loop-byte.byte-index (0, 0) in
    record {
      at_is = omega (arith, next_length c.args.pairs.now c.loop-byte.byte-index run.0 run.1 c.loop-byte-test.true refl, c.loop-byte.invariant.at_is);
      so_far = runs_on c.args.pairs.now c.loop-byte.byte-index run.0 run.1 c.loop-byte-test.true refl c.args.bytes.now c.args.from c.loop-byte.at c.loop-byte.bytes c.fill.new.self c.loop-byte.invariant.at_is c.requires.within c.loop-byte.invariant.so_far c.fill.ensures;
    }
