use Rattle.std.proofs.Common.{arith, ◌∙◌}
use Rattle.hm_trace.proofs.StressNames.{is_name_at, name_text}
use Rattle.hm_trace.proofs.stress.name_of.Goals as goal

pub of_name-requires : goal.of_name-requires
of_name-requires c =
    rw (c.as_bytes.ensures.value ∙ c.in_ok-text.ensures.ok ∙ name_text c.args.thread c.args.i)
    (is_name_at c.args.thread c.args.i (omega arith) (omega arith))
