use Rattle.std.proofs.Common.{◌≡◌, ◌+◌, ◌≤◌, length, vec_len, vec_capacity}
use Rattle.hm_replay.specs.Names.{Names, with_all, with_own}
use Rattle.hm_replay.specs.Rooms.{AreRooms}
use Rattle.hm_replay.proofs.scope.Scope.left.Given as goal

abbrev pub invariant-loop-name : goal.invariant-loop-name
invariant-loop-name l = record {
  rooms : AreRooms l.name-iterator;
  listed : (names : Names) → with_own (with_all names l.left.items) (l.self.0, l.name-iterator) ≡ with_own names l.self;
  room : vec_len l.left + length l.name-iterator ≤ vec_capacity l.left;
}
