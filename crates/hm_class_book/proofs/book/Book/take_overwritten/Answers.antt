use Rattle.std.proofs.Common.{◌≡◌, ℕ, Bool, Option, Some, None, sym, ◌∙◌, ap, subst, refl, true≢false}
use Rattle.hm_class_rules.specs.State.{State}
use Rattle.hm_class_rules.specs.Steps.{condemns}
use Rattle.hm_class_rules.specs.Rules.{Picks, reuse_finds}
use Rattle.hm_class_book.specs.Book.{state_in}
use Rattle.hm_class_book.proofs.Picked.{PickJudges}
use Rattle.hm_class_book.proofs.book.Book.take_overwritten.Goals as goal

pub returns-in-None : goal.returns-in-None
returns-in-None c =
    let p = c.args.region.now.shape in
    let none = subst (λ (o : Option Bool). PickJudges p (state_in c.args.self.now) c.args.choices.now c.args.addr c.args.from (state_in c.pick.new.self) o) c.in-None.is c.in_ok-picked.ensures in
    λ k. none k.0

pub returns-then-not-may_condemn : goal.returns-then-not-may_condemn
returns-then-not-may_condemn c =
    let p = c.args.region.now.shape in
    let h = subst (λ (o : Option Bool). PickJudges p (state_in c.args.self.now) c.args.choices.now c.args.addr c.args.from (state_in c.pick.new.self) o) c.in-Some.is c.in_ok-picked.ensures in
    λ k. true≢false (sym (c.may_condemn.ensures.1 (k.1, subst (λ (x : State). reuse_finds c.args.region.now.config p x c.args.addr ≡ Some (c.args.stain.0, c.args.stain.1)) (sym h.2) (k.2 refl))) ∙ c.if-not-may_condemn.true)
