use Rattle.std.proofs.Common.{◌≡◌, ℕ, Option, Some, None, sym, ◌∙◌, ap, subst, refl, Bool, arith, true≢false}
use Rattle.hm_class_rules.specs.State.{State}
use Rattle.hm_class_rules.specs.Steps.{gives}
use Rattle.hm_class_rules.specs.Rules.{Picks, reuse_finds}
use Rattle.hm_class_book.specs.Book.{state_in}
use Rattle.hm_class_book.specs.Picks.{with_opened, IsFirst, Judges}
use Rattle.hm_class_book.proofs.Addresses.{place_below}
use Rattle.hm_class_book.proofs.Picked.{PickJudges}
use Rattle.hm_class_book.proofs.book.Book.take_given.Goals as goal

pub returns-in-None : goal.returns-in-None
returns-in-None c =
    let p = c.args.region.now.shape in
    let none = subst (λ (o : Option Bool). PickJudges p (state_in c.args.self.now) c.args.choices.now c.args.addr c.args.from (state_in c.pick.new.self) o) c.in-None.is c.in_ok-picked.ensures in
    λ k. none k.0

pub give-requires-clause-below : goal.give-requires-clause-below
give-requires-clause-below c =
    let p = c.args.region.now.shape in
    let h = subst (λ (o : Option Bool). PickJudges p (state_in c.args.self.now) c.args.choices.now c.args.addr c.args.from (state_in c.pick.new.self) o) c.in-Some.is c.in_ok-picked.ensures in
    omega (arith, place_below p c.args.addr c.requires.shape h.0.place)

pub returns-then-not-may_give : goal.returns-then-not-may_give
returns-then-not-may_give c =
    let p = c.args.region.now.shape in
    let h = subst (λ (o : Option Bool). PickJudges p (state_in c.args.self.now) c.args.choices.now c.args.addr c.args.from (state_in c.pick.new.self) o) c.in-Some.is c.in_ok-picked.ensures in
    λ k. true≢false (sym (c.may_give.ensures.1 (k.1, subst (λ (x : State). reuse_finds c.args.region.now.config p x c.args.addr ≡ None) (sym h.2) (k.2 refl))) ∙ c.if-not-may_give.true)
