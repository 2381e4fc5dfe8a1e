use Rattle.std.proofs.Common.{arith}
use Rattle.hm_slab_meta.proofs.WordBits.{all_set, first_of}
use Rattle.hm_slab_meta.proofs.word.first_clear.Goals as goal

pub returns-then-clear-eq0-clause-none : goal.returns-then-clear-eq0-clause-none
returns-then-clear-eq0-clause-none c = all_set c.args.word c.args.from (omega arith) c.if-clear-eq0.true

pub returns-else-clear-eq0-clause-found : goal.returns-else-clear-eq0-clause-found
returns-else-clear-eq0-clause-found c =
    first_of c.args.word c.args.from (omega arith) c.requires (omega (arith, c.if-clear-eq0.false))
