use Rattle.hm_trace.proofs.Ready.{script_few, script_ready}
use Rattle.hm_trace.proofs.progress.Progress.close_script.Goals as goal

pub of-requires-clause-valid : goal.of-requires-clause-valid
of-requires-clause-valid c =
    rw c.replace-steps.ensures.value (script_ready c.args.self.now c.in-InScript.thread c.in-InScript.is c.requires)

pub of-requires-clause-few : goal.of-requires-clause-few
of-requires-clause-few c =
    rw c.replace-steps.ensures.value (script_few c.args.self.now c.in-InScript.thread c.in-InScript.is c.requires)
