use Rattle.hm_trace.proofs.Ready.{stays_ready}
use Rattle.hm_trace.proofs.progress.Progress.line.Goals as goal

pub returns-clause-valid : goal.returns-clause-valid
returns-clause-valid c =
    stays_ready c.take_line.result _ _ _ c.requires c.take_line.ensures.exact c.take_line.ensures.indexed
