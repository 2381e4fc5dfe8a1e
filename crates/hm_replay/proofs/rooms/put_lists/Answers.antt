use Rattle.std.proofs.Common.{◌≡◌, ◌+◌, ◌∷◌, List, Vec, drop, refl, sym, ◌∙◌, ap, subst}
use Rattle.std.proofs.lemmas.List.{drop_more}
use Rattle.std.specs.declared.alloc.Global.{Global}
use Rattle.hm_replay.specs.declared.left.NameLeft.{NameLeft}
use Rattle.hm_replay.specs.Names.{Names, held, with_all, with_lists}
use Rattle.hm_replay.specs.Rooms.{set_in, HaveRooms}
use Rattle.hm_replay.proofs.Keeping.{keeps_itself, keeps_then, rooms_stay}
use Rattle.hm_replay.proofs.rooms.put_lists.Goals as goal

pub put_all-requires-clause-rooms : goal.put_all-requires-clause-rooms
put_all-requires-clause-rooms c = c.loop-left.invariant.kept.rooms c.requires.rooms

pub loop-left-init : goal.loop-left-init
loop-left-init c = record { kept = keeps_itself _; room = c.requires.room; value = refl }

pub put_all-requires-clause-room : goal.put_all-requires-clause-room
put_all-requires-clause-room c =
    subst (λ (l : List NameLeft). HaveRooms c.loop-left.rooms.entries l)
    (sym (c.deref.ensures.value ∙ ap (λ (v : Vec NameLeft Global). v.items) c.left-item.is))
    (c.loop-left.invariant.room.each c.loop-left.left-index c.left-item.result c.loop-left-test.true)

pub loop-left-preserved : goal.loop-left-preserved
loop-left-preserved c =
    let i = c.loop-left.left-index in
    let lists : List (Vec NameLeft Global) = c.args.lists.now in
    let v : Vec NameLeft Global = c.left-item.result in
    let rest : List (Vec NameLeft Global) = drop (i + 1) lists in
    let old = c.loop-left.invariant in
    let before : Names = held (set_in c.loop-left.rooms.entries) in
    let dropped : v ∷ rest ≡ drop i lists =
    ap (λ (u : Vec NameLeft Global). u ∷ rest) c.left-item.is ∙ sym (drop_more lists i v c.loop-left-test.true) in
    record {
      kept = keeps_then _ _ _ old.kept c.put_all.ensures.kept;
      room = record { each = λ j u l. rooms_stay _ _ _ (old.room.each j u l) c.put_all.ensures.kept };
      value =
          ap (λ (z : Names). with_lists z rest)
          (c.put_all.ensures.value ∙ ap (λ (l : List NameLeft). with_all before l) c.deref.ensures.value)
          ∙ ap (λ (l : List (Vec NameLeft Global)). with_lists before l) dropped ∙ old.value;
    }
