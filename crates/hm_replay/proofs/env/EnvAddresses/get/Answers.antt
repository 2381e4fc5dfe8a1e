use Rattle.std.proofs.Common.{◌≡◌, ℕ, List, Option, Some, None, refl, sym, ◌∙◌, ap, subst}
use Rattle.std.specs.Prelude.{IfSome}
use Rattle.std.specs.Option.{option_flatten, option_map_or}
use Rattle.hm_trace.specs.declared.names.Name.{Name}
use Rattle.hm_trace.specs.Views.{name_view}
use Rattle.hm_heap.specs.Requests.{IsInReach}
use Rattle.hm_replay.specs.Names.{held}
use Rattle.hm_replay.proofs.Held.{looked}
use Rattle.hm_replay.proofs.Keeping.{held_set}
use Rattle.hm_replay.proofs.env.EnvAddresses.get.Goals as goal

flat : (o : Option (Option ℕ)) → option_flatten o ≡ option_map_or (λ (given : Option ℕ). given) o None
flat None = refl
flat (Some given) = refl

flat_reach : (o : Option (Option ℕ)) → IfSome o (λ (given : Option ℕ). IfSome given IsInReach)
    → IfSome (option_flatten o) IsInReach
flat_reach None reach = tt
flat_reach (Some given) reach = reach

pub returns-clause-value : goal.returns-clause-value
returns-clause-value c =
    let rooms : List (Name × Option ℕ) = c.self.inside.addresses.entries in
    let q : List ℕ = name_view c.args.name.now in
    subst (λ (es : List (Name × ℕ)). c.flatten.result ≡ held es q) c.self.view_is
    (c.flatten.ensures
    ∙ ap (λ (o : Option (Option ℕ)). option_flatten o) (c.copied.ensures ∙ c.get.ensures.value ∙ looked rooms q)
    ∙ flat (held rooms q) ∙ sym (held_set rooms c.self.invariant.once q))

pub returns-clause-reach : goal.returns-clause-reach
returns-clause-reach c =
    let rooms : List (Name × Option ℕ) = c.self.inside.addresses.entries in
    let q : List ℕ = name_view c.args.name.now in
    subst (λ (o : Option ℕ). IfSome o IsInReach)
    (sym (c.flatten.ensures
    ∙ ap (λ (o : Option (Option ℕ)). option_flatten o) (c.copied.ensures ∙ c.get.ensures.value ∙ looked rooms q)))
    (flat_reach (held rooms q) (c.self.invariant.reach q))
