use Rattle.std.proofs.Common.{◌≡◌, drop}
use Rattle.hm_replay.specs.Names.{held, with_lists}
use Rattle.hm_replay.specs.Rooms.{set_in, KeepsRooms, HaveAllRooms}
use Rattle.hm_replay.proofs.rooms.put_lists.Given as goal

abbrev pub invariant-loop-left : goal.invariant-loop-left
invariant-loop-left l = record {
  kept : KeepsRooms l.fn.rooms.entries l.rooms.entries;
  room : HaveAllRooms l.rooms.entries l.lists;
  value : with_lists (held (set_in l.rooms.entries)) (drop l.left-index l.lists)
      ≡ with_lists (held (set_in l.fn.rooms.entries)) l.lists;
}
