use Rattle.std.proofs.Common.{◌≡◌, ◌+◌, ◌<◌, ◌^◌, ℕ, get_or, refl, sym, arith}
use Rattle.hm_class_book.specs.Book.{slabs_in}
use Rattle.hm_class_book.proofs.RunWrites.{slabs_nil, next_length, next_within, next_written}
use Rattle.hm_class_book.proofs.slabs.write_runs.Goals as goal

pub loop-byte-init : goal.loop-byte-init
loop-byte-init c = record { at_is = omega arith; so_far = sym (slabs_nil c.args.shape.now c.args.addr (slabs_in c.args.opens.now)) }

pub fill_slabs-requires : goal.fill_slabs-requires
fill_slabs-requires c = (let run : ℕ × ℕ = get_or c.args.pairs.now c.loop-byte.byte-index (0, 0) in
    omega (arith, next_within c.args.pairs.now c.loop-byte.byte-index run.0 run.1 c.loop-byte-test.true refl, c.requires, c.loop-byte.invariant.at_is))

pub overflow_add-at : goal.overflow_add-at
overflow_add-at c = (let run : ℕ × ℕ = get_or c.args.pairs.now c.loop-byte.byte-index (0, 0) in
    omega (arith, next_within c.args.pairs.now c.loop-byte.byte-index run.0 run.1 c.loop-byte-test.true refl, c.requires, c.loop-byte.invariant.at_is))

pub loop-byte-preserved : goal.loop-byte-preserved
loop-byte-preserved c =
    let run : ℕ × ℕ = get_or c.args.pairs.now c.loop-byte.byte-index (0, 0) in
    record {
      at_is = omega (arith, next_length c.args.pairs.now c.loop-byte.byte-index run.0 run.1 c.loop-byte-test.true refl, c.loop-byte.invariant.at_is);
      so_far = next_written c.args.pairs.now c.loop-byte.byte-index run.0 run.1 c.loop-byte-test.true refl c.args.shape.now c.args.addr c.loop-byte.at (slabs_in c.args.opens.now) (slabs_in c.loop-byte.opens) (slabs_in c.fill_slabs.new.opens)
          c.loop-byte.invariant.at_is c.loop-byte.invariant.so_far c.fill_slabs.ensures;
    }
