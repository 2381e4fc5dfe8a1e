use Rattle.std.proofs.Common.{rules}
use Rattle.hm_journal.specs.Ranges.{Fits64}
use Rattle.hm_check.proofs.Kept.{seed_passes}
use Rattle.hm_check.proofs.progress.Progress.seed.Goals as goal

pub returns : goal.returns
returns c = λ past k.
    let found = rw c.in-Some.is at c.in_ok-seed.ensures.found in
    let fits : Fits64 c.in-Some.seed = search rules in
    seed_passes c.args.self.now past c.args.line.now k c.in-Some.seed c.requires fits found
