use Rattle.std.proofs.Common.{◌≡◌, refl}
use Rattle.hm_model.specs.declared.entry.Call.TheVariants.{GiveBack}
use Rattle.hm_class_book.specs.Book.{state_in}
use Rattle.hm_class_book.specs.Said.{said}
use Rattle.hm_class_book.proofs.Founds.{found, kept_event, kept_moves}
use Rattle.hm_class_book.proofs.class_book.ClassBook.take_give_back.Goals as goal

pub returns-in_default : goal.returns-in_default
returns-in_default c =
    let b = said c.args.self.now in
    let e = c.args.entry.now in
    c.settle.ensures b.cells.state (found b e (GiveBack c.args.addr c.args.stated) e.reply c.may_refuse-legal.result (state_in c.args.self.now.book) c.requires.reached c.requires.follows c.requires.call_is refl
    (kept_event c.args.addr c.args.stated e.reply c.in_default.not-Freed)
    (λ yes. kept_moves b.terms.shape e.choices c.args.addr c.args.stated e.reply b.cells.state c.in_default.not-Freed) (c.may_refuse-legal.ensures e.faults_before e.faults_after))
