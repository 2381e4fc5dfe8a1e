use Rattle.std.proofs.Common.{◌≡◌, ℕ, List, Option, Some, None, sym, ◌∙◌, ap, subst}
use Rattle.std.specs.Prelude.{IfSome}
use Rattle.std.specs.Option.{option_map_or}
use Rattle.hm_trace.specs.declared.names.Name.{Name}
use Rattle.hm_trace.specs.Views.{name_view}
use Rattle.hm_heap.specs.Requests.{IsInReach}
use Rattle.hm_replay.specs.Names.{ScopeView, held, seen_in}
use Rattle.hm_replay.proofs.Held.{looked}
use Rattle.hm_replay.proofs.scope.ScopeAddresses.get.Goals as goal

pub returns-in-Some-copied-clause-value : goal.returns-in-Some-copied-clause-value
returns-in-Some-copied-clause-value c =
    let own : List (Name × Option ℕ) = c.self.inside.own.entries in
    let q : List ℕ = name_view c.args.name.now in
    let is : Some c.in-Some-copied.given ≡ held own q =
    sym c.in-Some-copied.is ∙ c.copied.ensures ∙ c.get.ensures.value ∙ looked own q in
    subst (λ (s : ScopeView). c.in-Some-copied.given ≡ seen_in s q) c.self.view_is
    (ap (λ (o : Option (Option ℕ)). option_map_or (λ (given : Option ℕ). given) o (held c.self.inside.round.now q)) is)

pub returns-in-Some-copied-clause-reach : goal.returns-in-Some-copied-clause-reach
returns-in-Some-copied-clause-reach c =
    let own : List (Name × Option ℕ) = c.self.inside.own.entries in
    let q : List ℕ = name_view c.args.name.now in
    let is : held own q ≡ Some c.in-Some-copied.given =
    sym (sym c.in-Some-copied.is ∙ c.copied.ensures ∙ c.get.ensures.value ∙ looked own q) in
    subst (λ (o : Option (Option ℕ)). IfSome o (λ (given : Option ℕ). IfSome given IsInReach)) is
    (c.self.invariant.rooms.reach q)

pub returns-in-None-clause-value : goal.returns-in-None-clause-value
returns-in-None-clause-value c =
    let own : List (Name × Option ℕ) = c.self.inside.own.entries in
    let q : List ℕ = name_view c.args.name.now in
    let is : None ≡ held own q = sym c.in-None.is ∙ c.copied.ensures ∙ c.get.ensures.value ∙ looked own q in
    subst (λ (s : ScopeView). c.get-in-None.result ≡ seen_in s q) c.self.view_is
    (c.get-in-None.ensures.value
    ∙ ap (λ (o : Option (Option ℕ)). option_map_or (λ (given : Option ℕ). given) o (held c.self.inside.round.now q)) is)
