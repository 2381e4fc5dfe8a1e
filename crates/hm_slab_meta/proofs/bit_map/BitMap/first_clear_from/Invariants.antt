use Rattle.std.proofs.Common.{◌+◌, ◌*◌, ◌<◌, ◌≤◌}
use Rattle.hm_slab_meta.specs.Maps.{AreAllIn}
use Rattle.hm_slab_meta.proofs.bit_map.BitMap.first_clear_from.Given as goal

abbrev pub invariant-loop-index : goal.invariant-loop-index
invariant-loop-index l = record {
  low : l.low < 64;
  from : l.from ≤ 64 * l.index + l.low;
  passed : AreAllIn l.self l.from (64 * l.index + l.low);
}
