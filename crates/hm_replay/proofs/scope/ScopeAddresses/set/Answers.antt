use Rattle.std.proofs.Common.{◌≡◌, ℕ, List, Option, refl, subst}
use Rattle.hm_trace.specs.declared.names.Name.{Name}
use Rattle.hm_trace.specs.Views.{name_view}
use Rattle.hm_replay.specs.Names.{ScopeView, own_names, seen_in, touched_too, with_name}
use Rattle.hm_replay.proofs.Held.{own_more, set_over}
use Rattle.hm_replay.proofs.Keeping.{are_rooms, own_set}
use Rattle.hm_replay.proofs.scope.ScopeAddresses.set.Goals as goal

pub invariant_of-self-2 : goal.invariant_of-self-2
invariant_of-self-2 c = record { reach = c.requires.reach }

pub invariant_of-self-3 : goal.invariant_of-self-3
invariant_of-self-3 c =
    own_set c.self.inside.own.entries c.insert.new.self.entries c.args.name c.args.given c.in_ok-insert.ensures.updates.0
    (are_rooms c.self.inside.own.entries c.insert.new.self.entries c.args.name c.args.given c.insert.result
    (λ u. u.0) c.insert.ensures.updates c.insert.ensures.err c.insert.ensures.ordered c.self.invariant.rooms
    c.requires.reach)
    _ refl refl

pub returns-clause-value : goal.returns-clause-value
returns-clause-value c =
    let round : List (Name × ℕ) = c.self.inside.round.now in
    let after : List (Name × Option ℕ) = c.insert.new.self.entries in
    subst (λ (s : ScopeView). seen_in (round, after) ≡ with_name (seen_in s) (name_view c.args.name) c.args.given)
    c.self.view_is
    (set_over round c.self.inside.own.entries after c.args.name c.args.given c.in_ok-insert.ensures.updates.0)

pub returns-clause-touched : goal.returns-clause-touched
returns-clause-touched c =
    let round : List (Name × ℕ) = c.self.inside.round.now in
    let after : List (Name × Option ℕ) = c.insert.new.self.entries in
    subst (λ (s : ScopeView). own_names (round, after) ≡ touched_too (own_names s) (name_view c.args.name))
    c.self.view_is
    (own_more round c.self.inside.own.entries after c.args.name c.args.given c.in_ok-insert.ensures.updates.0)
