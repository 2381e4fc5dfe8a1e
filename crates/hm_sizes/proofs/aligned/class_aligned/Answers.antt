use Rattle.std.proofs.Common.{rules, inl, arith}
use Rattle.hm_sizes.specs.Aligned.{IsAlignment}
use Rattle.hm_sizes.proofs.AlignedClasses.{small_wide, large_wide, large_why}
use Rattle.hm_sizes.proofs.aligned.class_aligned.Goals as goal
use Rattle.hm_sizes.proofs.aligned.class_aligned.Goals.{in_default-via-in-Some+else-align-le-SLAB_ALIGNMENT, in_default-via-in_default}

pub returns-in-Some : goal.returns-in-Some
returns-in-Some c =
    let good : IsAlignment c.args.align = search rules in
    (good, small_wide c.args.asked c.args.align c.raised-size.result c.in-Some.class c.raised-size.ensures (omega arith) (omega arith) c.in-Some.ensures)

pub returns-in_default : goal.returns-in_default
returns-in_default c =
    let good : IsAlignment c.args.align = search rules in (
      good,
      large_wide c.args.asked c.args.align c.raised-size.result c.large_size.result c.raised-size.ensures c.large_size.ensures (omega arith) (omega arith)
          (elim c.in_default.branch [
            | in_default-via-in-Some+else-align-le-SLAB_ALIGNMENT w ↦ inl w.if-align-le-SLAB_ALIGNMENT.false
            | in_default-via-in_default w ↦ large_why c.raised-size.result c.args.align good w.in_default.ensures
          ]),
    )
