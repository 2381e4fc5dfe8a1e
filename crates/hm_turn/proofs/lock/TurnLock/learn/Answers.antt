use Rattle.std.proofs.Common.{rules, ◌≡◌, ap, sym, ◌∙◌}
use Rattle.atomic_table.specs.declared.badge.Badge.{Badge}
use Rattle.hm_turn.specs.declared.view.View.{View}
use Rattle.hm_turn.specs.Knowledge.{Knowledge}
use Rattle.hm_turn.specs.Known.{Known}
use Rattle.hm_turn.specs.Views.{knowledge, view_in}
use Rattle.hm_turn.proofs.Keeps.{learns}
use Rattle.hm_turn.proofs.lock.TurnLock.learn.Goals as goal

pub load-requires : goal.load-requires
load-requires g c = let m : View = c.into_seat-seat.result.me.0 in let views = c.turn.inside.badge.views in
    let same : m ≡ view_in views = sym (ap (λ (b : Badge View). view_in b.views) (sym c.replace.ensures.value) ∙ ap view_in c.into_seat-seat.ensures.2) in
    let known : knowledge m ≡ c.args.turn.now.knows = ap knowledge same ∙ ap (λ (t : Known). t.knows) c.turn.view_is in (
      search rules,
      search rules,
      learns g.T.Kept.entries g.T.Kept.origin _ _ _ _ (ap (λ (k : Knowledge). k.caller) known ∙ c.requires.root) (ap (λ (v : View). v.spent) same ∙ c.turn.invariant.live),
    )
