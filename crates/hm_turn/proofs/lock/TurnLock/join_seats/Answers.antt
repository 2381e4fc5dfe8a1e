use Rattle.std.proofs.Common.{rules, ◌≡◌, ap, sym, ◌∙◌}
use Rattle.atomic_table.specs.declared.badge.Badge.{Badge}
use Rattle.hm_turn.specs.declared.view.View.{View}
use Rattle.hm_turn.specs.Knowledge.{Knowledge}
use Rattle.hm_turn.specs.Known.{Known}
use Rattle.hm_turn.specs.Views.{knowledge, view_in}
use Rattle.hm_turn.proofs.Callers.{joins}
use Rattle.hm_turn.proofs.lock.TurnLock.join_seats.Goals as goal

pub join_seat-requires : goal.join_seat-requires
join_seat-requires g c = let m : View = c.into_seat-seat.result.me.0 in let n : View = c.into_seat.result.me.0 in let views = c.into.inside.badge.views in
    let same : m ≡ view_in views = sym (ap (λ (b : Badge View). view_in b.views) (sym c.replace.ensures.value) ∙ ap view_in c.into_seat-seat.ensures.2) in
    let known : knowledge m ≡ c.args.into.now.knows = ap knowledge same ∙ ap (λ (t : Known). t.knows) c.into.view_is in
    let same_other : n ≡ view_in c.other.inside.badge.views = sym (ap view_in c.into_seat.ensures.2) in (
      search rules,
      search rules,
      search rules,
      search rules,
      joins g.T.Kept.entries g.T.Kept.origin _ _ m _ n (ap (λ (v : View). v.spent) same ∙ c.into.invariant.live) (ap (λ (v : View). v.holds) same ∙ c.into.invariant.rests) (ap (λ (k : Knowledge). k.caller) known ∙ c.requires.root)
          (ap (λ (v : View). v.spent) same_other ∙ c.other.invariant.live) (ap (λ (v : View). v.holds) same_other ∙ c.other.invariant.rests) (ap (λ (v : View). v.ticket) same_other ∙ c.other.invariant.no_ticket),
    )
