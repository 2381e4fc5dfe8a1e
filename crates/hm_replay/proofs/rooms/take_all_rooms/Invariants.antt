use Rattle.std.proofs.Common.{◌≡◌, take}
use Rattle.hm_replay.specs.Rooms.{set_in, KeepsRooms, HaveAllRooms}
use Rattle.hm_replay.proofs.rooms.take_all_rooms.Given as goal

abbrev pub invariant-loop-left : goal.invariant-loop-left
invariant-loop-left l = record {
  kept : KeepsRooms l.fn.rooms.entries l.rooms.entries;
  same : set_in l.rooms.entries ≡ set_in l.fn.rooms.entries;
  room : HaveAllRooms l.rooms.entries (take l.left-index l.lists);
}
