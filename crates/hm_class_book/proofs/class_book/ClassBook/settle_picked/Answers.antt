use Rattle.std.proofs.Common.{◌≡◌, Bool, Option, subst}
use Rattle.hm_class_book.specs.Book.{state_in}
use Rattle.hm_class_book.specs.Kinds.{kind_in}
use Rattle.hm_class_book.specs.Said.{said}
use Rattle.hm_class_book.specs.Reached.{at_state, FoundPicked}
use Rattle.hm_class_book.proofs.class_book.ClassBook.settle_picked.Goals as goal

pub returns-in-Some : goal.returns-in-Some
returns-in-Some c = λ s f.
    c.end_picked.ensures s
    (subst (λ (o : Option Bool). FoundPicked (at_state (said c.args.self.now) s) c.args.entry.now c.args.addr (kind_in c.args.before) o (state_in c.args.self.now.book)) c.in-Some.is f)
