use Rattle.hm_slab_meta.proofs.MapBits.{has-union}
use Rattle.hm_slab_meta.proofs.bit_map.BitMap.union.Goals as goal

pub returns : goal.returns
returns c = λ i below. has-union c.args.self.now c.args.other.now i below
