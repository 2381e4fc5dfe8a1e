use Rattle.hm_check.proofs.Kept.{config_passes}
use Rattle.hm_check.proofs.progress.Progress.configuration.Goals as goal

pub returns : goal.returns
returns c = λ past k.
    let found = rw c.in-Some.is at c.in_ok-config.ensures.found in
    config_passes c.args.self.now past c.args.line.now k c.in-Some.config c.requires found.0 found.1
