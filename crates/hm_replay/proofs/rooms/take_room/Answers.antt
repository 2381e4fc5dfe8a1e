use Rattle.std.proofs.Common.{◌≡◌, ℕ, List, Option, None, sym, ◌∙◌, ap}
use Rattle.std.specs.Option.{is_some}
use Rattle.hm_trace.specs.declared.names.Name.{Name}
use Rattle.hm_trace.specs.Views.{name_view}
use Rattle.hm_replay.specs.Names.{held}
use Rattle.hm_replay.specs.Rooms.{set_in}
use Rattle.hm_replay.proofs.Held.{looked}
use Rattle.hm_replay.proofs.Keeping.{are_rooms, has_room, keeps_itself, none_of, others_stay, room_taken}
use Rattle.hm_replay.proofs.rooms.take_room.Goals as goal

pub returns-then-contains_key-clause-room : goal.returns-then-contains_key-clause-room
returns-then-contains_key-clause-room c =
    ap (λ (o : Option (Option ℕ)). is_some o) (sym (looked c.args.rooms.now.entries (name_view c.args.name)))
    ∙ sym c.contains_key.ensures ∙ c.if-contains_key.true

pub returns-then-contains_key-clause-kept : goal.returns-then-contains_key-clause-kept
returns-then-contains_key-clause-kept c = keeps_itself _

pub returns-clause-kept : goal.returns-clause-kept
returns-clause-kept c =
    let es : List (Name × Option ℕ) = c.args.rooms.now.entries in
    let fs : List (Name × Option ℕ) = c.insert.new.self.entries in
    record {
      rooms = λ rooms.
          are_rooms es fs c.args.name None c.insert.result (λ u. u.0) c.insert.ensures.updates c.insert.ensures.err
          c.insert.ensures.ordered rooms tt;
      others = others_stay es fs c.args.name None c.in_ok-insert.ensures.updates.0;
    }

pub returns-clause-same : goal.returns-clause-same
returns-clause-same c =
    let es : List (Name × Option ℕ) = c.args.rooms.now.entries in
    let none : held es (name_view c.args.name) ≡ None =
    sym (looked es (name_view c.args.name))
    ∙ none_of _ (sym c.contains_key.ensures ∙ c.if-contains_key.false) in
    ap (λ (l : List (Name × Option ℕ)). set_in l) c.in_ok-insert.ensures.entries ∙ room_taken c.args.name es none

pub returns-clause-room : goal.returns-clause-room
returns-clause-room c =
    has_room c.args.rooms.now.entries c.insert.new.self.entries c.args.name None c.in_ok-insert.ensures.updates.1
