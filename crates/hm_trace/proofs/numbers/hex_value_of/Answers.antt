use Rattle.std.proofs.Common.{arith}
use Rattle.hm_trace.proofs.Powers.{below}
use Rattle.hm_trace.proofs.numbers.hex_value_of.Goals as goal

pub overflow_mul-value : goal.overflow_mul-value
overflow_mul-value c = omega (arith, below c.loop-c.value c.loop-c.c-index c.loop-c.invariant.small)

pub overflow_add-value : goal.overflow_add-value
overflow_add-value c =
    omega (
      arith,
      below c.loop-c.value c.loop-c.c-index c.loop-c.invariant.small,
      c.from.ensures,
      c.in_ok-digit.ensures.small,
    )
