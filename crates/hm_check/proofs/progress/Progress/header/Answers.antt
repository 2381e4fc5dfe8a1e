use Rattle.hm_check.proofs.Kept.{header_passes}
use Rattle.hm_check.proofs.progress.Progress.header.Goals as goal

pub returns : goal.returns
returns c = λ past k. header_passes c.args.self.now past c.args.line.now k c.requires
    (c.is_header.ensures.0 c.if-not-is_header.false)
