use Rattle.hm_report.proofs.Marked.{report_tells}
use Rattle.hm_report.proofs.laws.findings_show.Goals as goal

pub returns : goal.returns
returns c = report_tells
