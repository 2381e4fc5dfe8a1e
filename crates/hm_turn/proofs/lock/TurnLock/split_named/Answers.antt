use Rattle.std.proofs.Common.{rules, ◌≡◌, ◌^◌, ℕ, ap, sym, ◌∙◌, arith}
use Rattle.atomic_table.specs.declared.badge.Badge.{Badge}
use Rattle.hm_turn.specs.declared.view.View.{View}
use Rattle.hm_turn.specs.Callers.{is_among}
use Rattle.hm_turn.specs.Knowledge.{Knowledge}
use Rattle.hm_turn.specs.Known.{Known}
use Rattle.hm_turn.specs.Views.{knowledge, view_in}
use Rattle.hm_turn.proofs.Callers.{splits}
use Rattle.hm_turn.proofs.Numbers.{distinct_below}
use Rattle.hm_turn.proofs.lock.TurnLock.split_named.Goals as goal

pub split_seat-other-requires : goal.split_seat-other-requires
split_seat-other-requires g c = let m : View = c.into_seat-seat.result.me.0 in let views = c.turn.inside.badge.views in
    let same : m ≡ view_in views = sym (ap (λ (b : Badge View). view_in b.views) (sym c.replace.ensures.value) ∙ ap view_in c.into_seat-seat.ensures.2) in
    let known : knowledge m ≡ c.args.turn.now.knows = ap knowledge same ∙ ap (λ (t : Known). t.knows) c.turn.view_is in (
      search rules,
      search rules,
      splits g.T.Kept.entries g.T.Kept.origin _ _ m g.N.Naming.caller (ap (λ (v : View). v.spent) same ∙ c.turn.invariant.live) (ap (λ (v : View). v.holds) same ∙ c.turn.invariant.rests) (ap (λ (k : Knowledge). k.caller) known ∙ c.requires.root)
          (λ e. let n = c.requires.named in let f = c.requires.fresh.0 in omega arith) (ap (λ (k : Knowledge). is_among g.N.Naming.caller k.used) known ∙ (ap (λ (n : ℕ). is_among n c.args.turn.now.knows.used) (sym c.requires.named) ∙ c.requires.fresh.1)),
    )

pub overflow_add-turn : goal.overflow_add-turn
overflow_add-turn g c = let b = c.turn.invariant.books in let few = distinct_below (view_in c.turn.inside.badge.views).used (2 ^ 32) b.distinct b.small in let s = b.some_out in let o = c.turn.invariant.out_is in omega arith
