use Rattle.std.proofs.Common.{◌≡◌, drop}
use Rattle.hm_replay.specs.Names.{held, with_all}
use Rattle.hm_replay.specs.Rooms.{set_in, KeepsRooms, HaveRooms}
use Rattle.hm_replay.proofs.rooms.put_all.Given as goal

abbrev pub invariant-loop-name : goal.invariant-loop-name
invariant-loop-name l = record {
  kept : KeepsRooms l.fn.rooms.entries l.rooms.entries;
  room : HaveRooms l.rooms.entries l.left;
  value : with_all (held (set_in l.rooms.entries)) (drop l.name-index l.left)
      ≡ with_all (held (set_in l.fn.rooms.entries)) l.left;
}
