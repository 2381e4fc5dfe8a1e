use Rattle.std.proofs.Common.{rules, tests}
use Rattle.hm_trace.proofs.LineEnds.{stands_behind}
use Rattle.hm_trace.proofs.reading.finish.Goals as goal

pub returns-else-is_empty : goal.returns-else-is_empty
returns-else-is_empty c = rw (c.fault.ensures) (stands_behind _ _ c.args.rest.now (search (rules, tests)))
