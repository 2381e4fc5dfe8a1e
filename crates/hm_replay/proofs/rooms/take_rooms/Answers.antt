use Rattle.std.proofs.Common.{arith, ◌≡◌, ◌+◌, ◌∷◌, ◌++◌, List, [], take, refl, sym, ◌∙◌, ap, subst}
use Rattle.std.proofs.lemmas.List.{take_all, take_more}
use Rattle.hm_replay.specs.declared.left.NameLeft.{NameLeft}
use Rattle.hm_replay.specs.Rooms.{HaveRooms}
use Rattle.hm_replay.proofs.Keeping.{keeps_itself, keeps_then, rooms_more}
use Rattle.hm_replay.proofs.rooms.take_rooms.Goals as goal

pub loop-name-init : goal.loop-name-init
loop-name-init c = record {
  kept = keeps_itself _;
  same = refl;
  room = record { each = λ i n l. absurd (omega (arith, l)) };
}

pub loop-name-preserved : goal.loop-name-preserved
loop-name-preserved c =
    let i = c.loop-name.name-index in
    let left : List NameLeft = c.args.left.now in
    let n : NameLeft = c.name-item.result in
    let old = c.loop-name.invariant in
    let fs = c.take_room.new.rooms.entries in
    let taken : take i left ++ n ∷ [] ≡ take (i + 1) left =
    sym (take_more left i n c.loop-name-test.true ∙ ap (λ (m : NameLeft). take i left ++ m ∷ []) (sym c.name-item.is)) in
    record {
      kept = keeps_then _ _ _ old.kept c.take_room.ensures.kept;
      same = c.take_room.ensures.same ∙ old.same;
      room =
          subst (λ (l : List NameLeft). HaveRooms fs l) taken
          (rooms_more c.loop-name.rooms.entries fs (take i left) n old.room c.take_room.ensures.kept
          c.in_ok-take_room.ensures.room);
    }

pub returns-clause-room : goal.returns-clause-room
returns-clause-room c =
    subst (λ (l : List NameLeft). HaveRooms c.loop-name.rooms.entries l)
    (take_all c.loop-name.name-index c.args.left.now (omega arith)) c.loop-name.invariant.room
