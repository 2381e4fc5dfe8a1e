use Rattle.std.proofs.Common.{◌≡◌, ◌∙◌, ◌&&◌, ◌==◌, ℕ, Bool, true, sym, subst, ap, Option}
use Rattle.hm_class_rules.specs.Rules.{Source}
use Rattle.hm_class_book.specs.Book.{state_in}
use Rattle.hm_class_book.proofs.KeptSources.{serves_is, opens_is}
use Rattle.hm_class_book.proofs.book.Book.is_source.Goals as goal

pub returns-in-None : goal.returns-in-None
returns-in-None c =
    let p = c.args.shape.now in
    let s = state_in c.args.self.now in
    subst (λ (o : Option ℕ). (c.serves.result ≡ true → Source p s o c.args.slab) × (Source p s o c.args.slab → c.serves.result ≡ true)) (sym c.in-None.is)
    (serves_is p s c.args.partial.now c.args.empty.now c.args.slab c.serves.result c.requires.partial c.requires.empty c.serves.ensures)

pub returns-in-Some : goal.returns-in-Some
returns-in-Some c =
    let p = c.args.shape.now in
    let s = state_in c.args.self.now in
    let r : Bool = (c.opens.result && (c.in-Some.number == c.args.slab)) && c.is_same.result in
    subst (λ (o : Option ℕ). (r ≡ true → Source p s o c.args.slab) × (Source p s o c.args.slab → r ≡ true)) (sym c.in-Some.is)
    (opens_is p s c.args.partial.now c.args.empty.now c.args.slab c.in-Some.number r c.is_same.result c.requires.shape c.requires.partial c.requires.empty
    (ap (λ (b : Bool). (b && (c.in-Some.number == c.args.slab)) && c.is_same.result) c.opens.ensures)
    (λ e. sym c.unopened.ensures ∙ c.is_same.ensures.0 e) (λ e. c.is_same.ensures.1 (c.unopened.ensures ∙ e)))
