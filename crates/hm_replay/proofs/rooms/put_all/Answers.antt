use Rattle.std.proofs.Common.{◌≡◌, ◌+◌, ◌∷◌, List, drop, refl, sym, ◌∙◌, ap, subst}
use Rattle.std.specs.Prelude.{IsSome}
use Rattle.std.proofs.lemmas.List.{drop_more}
use Rattle.hm_trace.specs.Views.{name_view}
use Rattle.hm_replay.specs.declared.left.NameLeft.{NameLeft}
use Rattle.hm_replay.specs.Names.{Names, held, with_all}
use Rattle.hm_replay.specs.Rooms.{set_in}
use Rattle.hm_replay.proofs.Keeping.{keeps_itself, keeps_then, rooms_stay}
use Rattle.hm_replay.proofs.rooms.put_all.Goals as goal

pub put-requires-clause-rooms : goal.put-requires-clause-rooms
put-requires-clause-rooms c = c.loop-name.invariant.kept.rooms c.requires.rooms

pub loop-name-init : goal.loop-name-init
loop-name-init c = record { kept = keeps_itself _; room = c.requires.room; value = refl }

pub put-requires-clause-room : goal.put-requires-clause-room
put-requires-clause-room c =
    subst (λ (n : NameLeft). IsSome (held c.loop-name.rooms.entries (name_view n.name))) (sym c.name-item.is)
    (c.loop-name.invariant.room.each c.loop-name.name-index c.name-item.result c.loop-name-test.true)

pub loop-name-preserved : goal.loop-name-preserved
loop-name-preserved c =
    let i = c.loop-name.name-index in
    let left : List NameLeft = c.args.left.now in
    let n : NameLeft = c.name-item.result in
    let rest : List NameLeft = drop (i + 1) left in
    let old = c.loop-name.invariant in
    let dropped : n ∷ rest ≡ drop i left =
    ap (λ (m : NameLeft). m ∷ rest) c.name-item.is ∙ sym (drop_more left i n c.loop-name-test.true) in
    record {
      kept = keeps_then _ _ _ old.kept c.put.ensures.kept;
      room = rooms_stay _ _ _ old.room c.put.ensures.kept;
      value =
          ap (λ (z : Names). with_all z rest) c.put.ensures.value
          ∙ ap (λ (l : List NameLeft). with_all (held (set_in c.loop-name.rooms.entries)) l) dropped ∙ old.value;
    }
