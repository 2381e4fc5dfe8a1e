use Rattle.std.proofs.Common.{◌≡◌, ap, sym, ◌∙◌, subst, List, ◌++◌, ◌∷◌, [], Option, Some}
use Rattle.atomic_table.specs.Table.{Me, opening}
use Rattle.hm_turn.specs.Rule.{Orderly}
use Rattle.hm_turn.specs.Views.{founder}
use Rattle.hm_turn.proofs.Keeps.{opens, founder_sound}
use Rattle.hm_turn.specs.declared.view.View.{View}
use Rattle.hm_turn.specs.Sound.{IsSound}
use Rattle.hm_turn.proofs.lock.TurnLock.build.Goals as goal

pub invariant_of-result-in-Ok : goal.invariant_of-result-in-Ok
invariant_of-result-in-Ok g c =
    let origin = g.T.Kept.origin c.of-key.result.value in
    let seat : c.in-Ok.seat.me.0 ≡ founder origin = ap (λ (m : Me (Option g.row.T.Denot) View). m.0) c.in-Ok.ensures.ok.4 in
    let views : c.into_badge.result.views ≡ founder origin ∷ [] = c.into_badge.ensures.2 ∙ ap (λ v. v ∷ []) seat in
    subst (λ (vs : List View). IsSound vs 0 0) (sym views) (founder_sound origin)

pub new-requires : goal.new-requires
new-requires g c =
    let origin = g.T.Kept.origin c.of-key.result.value in
    let items = c.push_reserved.ensures.items ∙ ap (λ l. l ++ Some c.args.value ∷ []) (c.in_ok-slots.ensures.items) in
    subst (λ (xs : List (Option g.row.T.Denot)). Orderly g.T.Kept.entries g.T.Kept.origin origin (opening (0 ∷ 0 ∷ 0 ∷ []) xs (founder origin))) (sym {A = List (Option g.row.T.Denot)} items)
    (opens _ _ _ c.args.value c.requires.empty (ap g.T.Kept.origin (sym c.of-key.ensures)))
