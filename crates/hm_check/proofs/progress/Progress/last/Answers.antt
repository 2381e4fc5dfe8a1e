use Rattle.hm_check.proofs.Kept.{end_passes}
use Rattle.hm_check.proofs.progress.Progress.last.Goals as goal

pub returns : goal.returns
returns c = λ past k. end_passes c.args.self.now past c.args.line.now k c.requires.stage c.requires.all
    (c.is_end.ensures.0 c.if-not-is_end.false)
