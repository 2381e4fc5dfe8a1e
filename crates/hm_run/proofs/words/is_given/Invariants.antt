use Rattle.std.proofs.Common.{◌≡◌, length}
use Rattle.hm_run.specs.Words.{is_given}
use Rattle.hm_run.proofs.words.is_given.Given as goal

-- the pairs that are left decide
abbrev pub invariant-pairs : goal.invariant-pairs
invariant-pairs l = is_given l.option l.rest ≡ is_given l.option l.words

abbrev pub decreases-pairs : goal.decreases-pairs
decreases-pairs l = length l.rest
