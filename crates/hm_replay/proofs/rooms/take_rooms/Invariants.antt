use Rattle.std.proofs.Common.{◌≡◌, take}
use Rattle.hm_replay.specs.Rooms.{set_in, KeepsRooms, HaveRooms}
use Rattle.hm_replay.proofs.rooms.take_rooms.Given as goal

abbrev pub invariant-loop-name : goal.invariant-loop-name
invariant-loop-name l = record {
  kept : KeepsRooms l.fn.rooms.entries l.rooms.entries;
  same : set_in l.rooms.entries ≡ set_in l.fn.rooms.entries;
  room : HaveRooms l.rooms.entries (take l.name-index l.left);
}
