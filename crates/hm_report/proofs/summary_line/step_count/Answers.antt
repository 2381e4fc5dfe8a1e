use Rattle.std.proofs.Common.{rules}
use Rattle.std.proofs.iter.runs.Made.{chains}
use Rattle.hm_report.proofs.summary_line.step_count.Goals as goal

pub returns : goal.returns
returns c = search (rules, chains)
