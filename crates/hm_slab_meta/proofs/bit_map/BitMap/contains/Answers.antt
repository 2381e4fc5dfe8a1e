use Rattle.hm_slab_meta.proofs.MapBits.{has-contains}
use Rattle.hm_slab_meta.proofs.bit_map.BitMap.contains.Goals as goal

pub returns : goal.returns
returns c = has-contains c.args.self.now c.args.bit c.requires
