use Rattle.std.proofs.Common.{List, Option, Some, ap, sym, ◌∙◌, refl, subst}
use Rattle.std.proofs.lemmas.Option.{same_Some}
use Rattle.std.specs.Option.{IsSome}
use Rattle.hm_model.specs.declared.entry.Entry.{Entry}
use Rattle.hm_turn.specs.Known.{Known, Lock, IsWhole}
use Rattle.hm_turn.specs.Views.{view_in}
use Rattle.hm_turn.proofs.Views.{one_at}
use Rattle.hm_turn.proofs.Callers.{finishes}
use Rattle.hm_turn.proofs.lock.TurnLock.close.Goals as goal

pub unwrap-requires : goal.unwrap-requires
unwrap-requires g c = let f = finishes g.T.Kept.entries g.T.Kept.origin (g.T.Kept.origin c.self.inside.table.shared.key.value) _ _ _ _ c.turn.inside.badge.views _ c.close_with-closed.ensures.values.2 (ap view_in c.into_seat.ensures.2) (ap (λ (t : Known). t.knows) c.turn.view_is) c.turn.invariant.live c.turn.invariant.rests c.requires.root c.requires.joined in
    subst (λ (o : Option g.row.T.Denot). IsSome o) (one_at _ 0 (Some f.value) c.take-value.result f.there c.take-value.ensures.value) refl

pub returns-clause-origin : goal.returns-clause-origin
returns-clause-origin g c = let f = finishes g.T.Kept.entries g.T.Kept.origin (g.T.Kept.origin c.self.inside.table.shared.key.value) _ _ _ _ c.turn.inside.badge.views _ c.close_with-closed.ensures.values.2 (ap view_in c.into_seat.ensures.2) (ap (λ (t : Known). t.knows) c.turn.view_is) c.turn.invariant.live c.turn.invariant.rests c.requires.root c.requires.joined in
    let is = same_Some f.value c.unwrap.result (one_at _ 0 (Some f.value) c.take-value.result f.there c.take-value.ensures.value ∙ c.unwrap.ensures) in
    ap g.T.Kept.origin (sym is) ∙ (f.origin_is ∙ ap (λ (l : Lock). l.origin) c.self.view_is)

pub returns-clause-entries : goal.returns-clause-entries
returns-clause-entries g c = let f = finishes g.T.Kept.entries g.T.Kept.origin (g.T.Kept.origin c.self.inside.table.shared.key.value) _ _ _ _ c.turn.inside.badge.views _ c.close_with-closed.ensures.values.2 (ap view_in c.into_seat.ensures.2) (ap (λ (t : Known). t.knows) c.turn.view_is) c.turn.invariant.live c.turn.invariant.rests c.requires.root c.requires.joined in
    let is = same_Some f.value c.unwrap.result (one_at _ 0 (Some f.value) c.take-value.result f.there c.take-value.ensures.value ∙ c.unwrap.ensures) in
    subst (λ (xs : List Entry). IsWhole xs c.args.turn.knows) (ap g.T.Kept.entries is) f.whole
