use Rattle.std.proofs.Common.{◌-◌, arith}
use Rattle.hm_sizes.specs.Classes.{bit_length}
use Rattle.hm_sizes.proofs.Digits.{digits_between, power_most}
use Rattle.hm_sizes.proofs.large.spacing.Goals as goal

pub overflow_sub-result : goal.overflow_sub-result
overflow_sub-result c = omega (arith, (digits_between (c.args.raised - 1) (omega arith) (omega arith)).0)

pub returns-else-raised-le-PAGES_APART-clause-most :
    goal.returns-else-raised-le-PAGES_APART-clause-most
returns-else-raised-le-PAGES_APART-clause-most c =
    power_most (bit_length (c.args.raised - 1) - 3) (omega (arith, (digits_between (c.args.raised - 1) (omega arith) (omega arith)).1))
