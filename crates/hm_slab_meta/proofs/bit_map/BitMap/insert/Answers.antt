use Rattle.std.proofs.Common.{arith}
use Rattle.hm_slab_meta.proofs.MapBits.{has-insert}
use Rattle.hm_slab_meta.proofs.bit_map.BitMap.insert.Goals as goal

pub returns : goal.returns
returns c = λ i below. has-insert c.args.self.now c.args.bit (omega arith) c.requires i
