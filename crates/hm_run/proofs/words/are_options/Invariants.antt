use Rattle.std.proofs.Common.{◌≡◌, length}
use Rattle.hm_run.specs.Words.{are_options}
use Rattle.hm_run.proofs.words.are_options.Given as goal

-- the pairs that are left decide
abbrev pub invariant-pairs : goal.invariant-pairs
invariant-pairs l = are_options l.rest ≡ are_options l.words

abbrev pub decreases-pairs : goal.decreases-pairs
decreases-pairs l = length l.rest
