use Rattle.std.proofs.Common.{arith}
use Rattle.hm_slab_meta.proofs.MapBits.{has-remove}
use Rattle.hm_slab_meta.proofs.bit_map.BitMap.remove.Goals as goal

pub returns : goal.returns
returns c = λ i below. has-remove c.args.self.now c.args.bit (omega arith) c.requires i
