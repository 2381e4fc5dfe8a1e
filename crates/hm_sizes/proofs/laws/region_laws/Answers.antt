use Rattle.hm_sizes.proofs.Shaped.{regions_apart}
use Rattle.hm_sizes.proofs.laws.region_laws.Goals as goal

pub returns-clause-apart : goal.returns-clause-apart
returns-clause-apart c config arena class other_arena other_class below other_below other =
    regions_apart config arena class other_arena other_class below other_below other
