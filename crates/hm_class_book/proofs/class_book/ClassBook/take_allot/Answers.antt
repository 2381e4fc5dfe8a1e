use Rattle.std.proofs.Common.{◌≡◌, refl}
use Rattle.hm_model.specs.declared.entry.Call.TheVariants.{Allot}
use Rattle.hm_class_book.specs.Book.{state_in}
use Rattle.hm_class_book.specs.Said.{said}
use Rattle.hm_class_book.proofs.Founds.{found, ungiven_event, ungiven_moves}
use Rattle.hm_class_book.proofs.Reaching.{partial_after, empty_after}
use Rattle.hm_class_book.proofs.class_book.ClassBook.take_allot.Goals as goal

pub may_not_give-legal-requires-clause-partial : goal.may_not_give-legal-requires-clause-partial
may_not_give-legal-requires-clause-partial c = let b = said c.args.self.now in partial_after b.seed b.arena b.terms b.cells c.requires.reached

pub may_not_give-legal-requires-clause-empty : goal.may_not_give-legal-requires-clause-empty
may_not_give-legal-requires-clause-empty c = let b = said c.args.self.now in empty_after b.seed b.arena b.terms b.cells c.requires.reached

pub returns-in_default : goal.returns-in_default
returns-in_default c =
    let b = said c.args.self.now in
    let e = c.args.entry.now in
    c.settle.ensures b.cells.state (found b e (Allot c.args.asked c.args.align) e.reply c.may_not_give-legal.result (state_in c.args.self.now.book) c.requires.reached c.requires.follows c.requires.call_is refl
    (ungiven_event c.args.asked c.args.align e.reply c.in_default.not-Given c.in_default.not-Overwritten)
    (λ yes. ungiven_moves b.terms.shape e.choices c.args.asked c.args.align e.reply b.cells.state c.in_default.not-Given c.in_default.not-Overwritten) (c.may_not_give-legal.ensures c.args.asked c.args.align))
