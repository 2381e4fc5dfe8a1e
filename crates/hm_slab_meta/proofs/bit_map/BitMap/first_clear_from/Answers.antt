use Rattle.std.proofs.Common.{arith}
use Rattle.hm_slab_meta.proofs.MapBits.{first_out, all_in_more}
use Rattle.hm_slab_meta.proofs.bit_map.BitMap.first_clear_from.Goals as goal

pub loop-index-init : goal.loop-index-init
loop-index-init c = record {
  low = omega arith;
  from = omega arith;
  passed = λ i from below. absurd (omega (arith, from, below));
}

pub first_clear-requires : goal.first_clear-requires
first_clear-requires c = c.loop-index.invariant.low

pub returns-in-Some-clause-found : goal.returns-in-Some-clause-found
returns-in-Some-clause-found c =
    first_out c.args.self.now c.args.from c.loop-index.index c.loop-index.low c.in-Some.bit (omega arith)
    c.loop-index.invariant.from c.loop-index.invariant.passed c.in-Some.ensures.found

pub loop-index-preserved : goal.loop-index-preserved
loop-index-preserved c = record {
  low = omega arith;
  from = omega (arith, c.loop-index.invariant.from, c.loop-index.invariant.low);
  passed =
      all_in_more c.args.self.now c.args.from c.loop-index.index c.loop-index.low c.loop-index.invariant.passed
      c.in_default.ensures.none;
}

pub returns-clause-none : goal.returns-clause-none
returns-clause-none c = λ i from below. c.loop-index.invariant.passed i from (omega arith)
