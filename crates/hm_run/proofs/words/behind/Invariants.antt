use Rattle.std.proofs.Common.{◌≡◌, length}
use Rattle.hm_run.specs.Words.{behind}
use Rattle.hm_run.proofs.words.behind.Given as goal

-- the pairs that are left decide
abbrev pub invariant-pairs : goal.invariant-pairs
invariant-pairs l = behind l.option l.rest ≡ behind l.option l.words

abbrev pub decreases-pairs : goal.decreases-pairs
decreases-pairs l = length l.rest
