use Rattle.std.proofs.Common.{◌≡◌, ℕ, length, sym, ◌∙◌, arith}
use Rattle.std.proofs.lemmas.Bool.{eqb-true}
use Rattle.hm_class_book.proofs.Addresses.{next_below}
use Rattle.hm_class_book.proofs.book.Book.take_new.Goals as goal

pub after-self-requires : goal.after-self-requires
after-self-requires c =
    let none : length c.args.self.now.shut.items ≡ 0 = omega (arith, c.args.self.now.shut.ok.0, eqb-true _ _ (sym c.is_empty.ensures ∙ c.if-is_empty.true)) in
    next_below c.args.shape.now c.args.self.now.shut.items c.args.self.now.next c.requires.shape c.requires.some none
