use Rattle.std.proofs.Common.{◌≡◌, ℕ, List, Option, subst}
use Rattle.hm_trace.specs.declared.names.Name.{Name}
use Rattle.hm_trace.specs.Views.{name_view}
use Rattle.hm_replay.specs.Names.{held, with_name}
use Rattle.hm_replay.specs.Rooms.{set_in}
use Rattle.hm_replay.proofs.Keeping.{are_rooms, is_set, once_ordered}
use Rattle.hm_replay.proofs.env.EnvAddresses.set.Goals as goal

pub invariant_of-self-2 : goal.invariant_of-self-2
invariant_of-self-2 c =
    are_rooms c.self.inside.addresses.entries c.insert.new.self.entries c.args.name c.args.given c.insert.result
    (λ u. u.0) c.insert.ensures.updates c.insert.ensures.err c.insert.ensures.ordered c.self.invariant c.requires.reach

pub returns-clause-value : goal.returns-clause-value
returns-clause-value c =
    let rooms : List (Name × Option ℕ) = c.self.inside.addresses.entries in
    let after : List (Name × Option ℕ) = c.insert.new.self.entries in
    subst (λ (es : List (Name × ℕ)). held (set_in after) ≡ with_name (held es) (name_view c.args.name) c.args.given)
    c.self.view_is
    (is_set rooms after c.args.name c.args.given c.in_ok-insert.ensures.updates.0 c.self.invariant.once
    (once_ordered after c.insert.ensures.ordered))
