use Rattle.std.proofs.Common.{◌≡◌, refl}
use Rattle.hm_model.specs.declared.entry.Call.TheVariants.{Measure}
use Rattle.hm_class_book.specs.Book.{state_in}
use Rattle.hm_class_book.specs.Said.{said}
use Rattle.hm_class_book.proofs.Founds.{found}
use Rattle.hm_class_book.proofs.class_book.ClassBook.take_measure.Goals as goal

pub returns : goal.returns
returns c =
    let b = said c.args.self.now in
    let e = c.args.entry.now in
    c.settle.ensures b.cells.state (found b e (Measure c.args.addr) e.reply c.may_measure-legal.result (state_in c.args.self.now.book) c.requires.reached c.requires.follows c.requires.call_is refl refl (λ yes. refl)
    (c.may_measure-legal.ensures e.faults_before e.faults_after))
