use Rattle.std.proofs.Common.{arith, ◌≡◌, ◌+◌, ◌∷◌, ◌++◌, List, [], Vec, take, refl, sym, ◌∙◌, ap, subst}
use Rattle.std.proofs.lemmas.List.{take_all, take_more}
use Rattle.std.specs.declared.alloc.Global.{Global}
use Rattle.hm_replay.specs.declared.left.NameLeft.{NameLeft}
use Rattle.hm_replay.specs.Rooms.{HaveAllRooms, HaveRooms}
use Rattle.hm_replay.proofs.Keeping.{all_rooms_more, keeps_itself, keeps_then}
use Rattle.hm_replay.proofs.rooms.take_all_rooms.Goals as goal

pub loop-left-init : goal.loop-left-init
loop-left-init c = record {
  kept = keeps_itself _;
  same = refl;
  room = record { each = λ i v l. absurd (omega (arith, l)) };
}

pub loop-left-preserved : goal.loop-left-preserved
loop-left-preserved c =
    let i = c.loop-left.left-index in
    let lists : List (Vec NameLeft Global) = c.args.lists.now in
    let v : Vec NameLeft Global = c.left-item.result in
    let old = c.loop-left.invariant in
    let fs = c.take_rooms.new.rooms.entries in
    let taken : take i lists ++ v ∷ [] ≡ take (i + 1) lists =
    sym (take_more lists i v c.loop-left-test.true
    ∙ ap (λ (u : Vec NameLeft Global). take i lists ++ u ∷ []) (sym c.left-item.is)) in
    record {
      kept = keeps_then _ _ _ old.kept c.take_rooms.ensures.kept;
      same = c.take_rooms.ensures.same ∙ old.same;
      room =
          subst (λ (l : List (Vec NameLeft Global)). HaveAllRooms fs l) taken
          (all_rooms_more c.loop-left.rooms.entries fs (take i lists) v old.room c.take_rooms.ensures.kept
          (subst (λ (l : List NameLeft). HaveRooms fs l) c.deref.ensures.value c.in_ok-take_rooms.ensures.room));
    }

pub returns-clause-room : goal.returns-clause-room
returns-clause-room c =
    subst (λ (l : List (Vec NameLeft Global)). HaveAllRooms c.loop-left.rooms.entries l)
    (take_all c.loop-left.left-index c.args.lists.now (omega arith)) c.loop-left.invariant.room
