use Rattle.std.proofs.Common.{rules, ◌≡◌, ◌+◌, ◌∷◌, [], ℕ, List, Option, Some, ap, sym, refl, ◌∙◌, subst}
use mathlib.Core.Option.{none}
use Rattle.atomic_table.specs.Table.{Me, Allows, step, rest}
use Rattle.hm_turn.specs.Known.{InHand}
use Rattle.hm_turn.specs.declared.view.View.{View}
use Rattle.hm_turn.specs.Rule.{Orderly}
use Rattle.hm_turn.specs.Steps.{freed}
use Rattle.hm_turn.specs.Views.{knowing}
use Rattle.hm_turn.proofs.Keeps.{frees}
use Rattle.hm_turn.proofs.lock.TurnLock.give.Goals as goal

pub store-requires : goal.store-requires
store-requires g c = let entries = g.T.Kept.entries in let table = c.self.inside.table.shared in let v : View = c.held.inside.seat.me.0 in let x : g.row.T.Denot = c.held.inside.value in
    let noted : c.count_last.new.seat.me ≡ (knowing v (entries x), c.held.inside.seat.me.1) = c.count_last.ensures.knows.holds in
    let total : c.exchange.new.seat.me ≡ (knowing v (entries x), (0, Some x) ∷ []) = c.exchange.ensures.3 ∙ ap (λ (m : Me (Option g.row.T.Denot) View). (m.0, (0, Some x) ∷ rest m.1)) noted ∙ ap (λ (l : List (ℕ × Option g.row.T.Denot)). (knowing v (entries x), (0, Some x) ∷ rest l)) c.held.invariant.empty in
    let same : v.origin ≡ c.args.self.now.origin = ap (λ (h : InHand g.row.T.Denot). h.knows.origin) c.held.view_is ∙ c.requires.value.same_origin in
    let from : g.T.Kept.origin x ≡ v.origin = ap (λ (h : InHand g.row.T.Denot). g.T.Kept.origin h.value) c.held.view_is ∙ (c.requires.value.origin_is ∙ sym same) in (
      search rules,
      search rules,
      subst (λ (z : Me (Option g.row.T.Denot) View). Allows (Orderly entries g.T.Kept.origin (g.T.Kept.origin table.key.value)) table.table_id.slots c.exchange.new.seat.id z 1 (λ _. c.held.inside.ticket + 1) (λ _. freed (step table.table_id.slots 1 (c.held.inside.ticket + 1) 0 none) z (c.held.inside.ticket + 1))) (sym total)
          (frees entries g.T.Kept.origin _ _ _ c.held.inside.ticket (knowing v (entries x)) x c.held.invariant.live c.held.invariant.holds c.held.invariant.ticket_is refl from),
    )
