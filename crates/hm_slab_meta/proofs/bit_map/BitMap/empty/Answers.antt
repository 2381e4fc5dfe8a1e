use Rattle.hm_slab_meta.proofs.MapBits.{empty_is_clear}
use Rattle.hm_slab_meta.proofs.bit_map.BitMap.empty.Goals as goal

pub returns : goal.returns
returns c = empty_is_clear
