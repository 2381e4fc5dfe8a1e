use Rattle.std.proofs.Common.{arith}
use Rattle.hm_class.proofs.next_slab.find_slab.Goals as goal
use Rattle.hm_class.proofs.next_slab.find_slab.Goals.{in-Retired, in-Fresh}

pub make_slab-requires-clause-slab : goal.make_slab-requires-clause-slab
make_slab-requires-clause-slab g c κs within =
    elim c.match-source.branch [
      | in-Retired w ↦ omega (arith, (c.requires w.in-Retired.slab w.in-Retired.ensures.1).below, w.slab-is)
      | in-Fresh w ↦ omega (arith, (c.requires w.in-Fresh.slab w.in-Fresh.ensures.1).below, w.slab-is)
    ]
