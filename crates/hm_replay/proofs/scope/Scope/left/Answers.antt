use Rattle.std.proofs.Common.{arith, ◌≡◌, ℕ, ◌∷◌, List, Option, length, sym, ◌∙◌, ap, subst}
use Rattle.hm_trace.specs.declared.names.Name.{Name}
use Rattle.hm_replay.specs.declared.left.NameLeft.{NameLeft}
use Rattle.hm_replay.specs.Names.{Names, with_all, with_own}
use Rattle.hm_replay.specs.Rooms.{AreRooms}
use Rattle.hm_replay.proofs.Keeping.{first_reach, rooms_later}
use Rattle.hm_replay.proofs.Merging.{own_one, with_all_then}
use Rattle.hm_replay.proofs.scope.Scope.left.Goals as goal

pub invariant_of-push_reserved : goal.invariant_of-push_reserved
invariant_of-push_reserved c = record {
  reach =
      first_reach (c.in-Some.name.now, c.in-Some.given.now) c.next.new.self
      (subst (λ (l : List (Name × Option ℕ)). AreRooms l) c.in-Some.ensures.steps c.loop-name.invariant.rooms);
}

pub loop-name-preserved : goal.loop-name-preserved
loop-name-preserved c =
    let old = c.loop-name.invariant in
    let e : Name × Option ℕ = (c.in-Some.name.now, c.in-Some.given.now) in
    let rest : List (Name × Option ℕ) = c.next.new.self in
    let left : List NameLeft = c.loop-name.left.items in
    let steps : c.loop-name.name-iterator ≡ e ∷ rest = c.in-Some.ensures.steps in
    let rooms : AreRooms (e ∷ rest) = subst (λ (l : List (Name × Option ℕ)). AreRooms l) steps old.rooms in
    record {
      rooms = rooms_later e rest rooms;
      listed = λ names.
          let before : Names = with_all names left in
          ap (λ (l : List NameLeft). with_own (with_all names l) (c.args.self.now.0, rest)) c.push_reserved.ensures.items
          ∙ ap (λ (z : Names). with_own z (c.args.self.now.0, rest)) (with_all_then names left _)
          ∙ own_one before c.args.self.now.0 e rest rooms.once.0
          ∙ ap (λ (l : List (Name × Option ℕ)). with_own before (c.args.self.now.0, l)) (sym steps)
          ∙ old.listed names;
      room = omega (arith, old.room, ap (λ (l : List (Name × Option ℕ)). length l) steps, c.push_reserved.ensures.len);
    }

pub returns : goal.returns
returns c = λ names.
    ap (λ (l : List (Name × Option ℕ)). with_own (with_all names c.loop-name.left.items) (c.args.self.now.0, l))
    (sym c.in-None.ensures.steps.0)
    ∙ c.loop-name.invariant.listed names
