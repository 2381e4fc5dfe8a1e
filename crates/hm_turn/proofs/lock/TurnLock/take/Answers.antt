use Rattle.std.proofs.Common.{rules, ◌≡◌, ◌≤◌, ℕ, ap, sym, subst, ◌∙◌, ◌∷◌, Option, Some}
use Rattle.atomic_table.specs.Table.{Me, rest}
use Rattle.hm_turn.specs.declared.view.View.{View}
use Rattle.hm_turn.specs.Knowledge.{Knowledge}
use Rattle.hm_turn.specs.Known.{Known}
use Rattle.hm_turn.specs.Views.{knowledge, view_in}
use Rattle.hm_turn.proofs.lock.TurnLock.take.Goals as goal

pub exchange-requires : goal.exchange-requires
exchange-requires g c = let won = c.get_turn-ticket.ensures.wins.holds.won in
    (search rules, (Some won.value, won.has ∙ ap (λ l. (0, Some won.value) ∷ rest l) (sym won.has)))

pub returns-clause-knows : goal.returns-clause-knows
returns-clause-knows g c = let later = c.get_turn-ticket.ensures.wins.holds in let asked = later.asked in
    let known : knowledge c.into_seat-seat.result.me.0 ≡ c.args.turn.knows = ap knowledge (sym (ap view_in c.into_seat-seat.ensures.2)) ∙ ap (λ (t : Known). t.knows) c.turn.view_is in (
      knowledge later.asking.0,
      record {
        lost = asked.lost;
        more = subst (λ (n : ℕ). n ≤ asked.lost) (ap (λ (k : Knowledge). k.lost) known) asked.more;
        same = ap (λ (m : Me (Option g.row.T.Denot) View). knowledge m.0) asked.same ∙ ap (λ (k : Knowledge). record k { lost = asked.lost }) known;
      },
      search rules,
    )
