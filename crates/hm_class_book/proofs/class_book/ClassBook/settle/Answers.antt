use Rattle.std.proofs.Common.{◌≡◌}
use Rattle.hm_class_book.specs.Book.{state_in}
use Rattle.hm_class_book.specs.Said.{said}
use Rattle.hm_class_book.specs.Reached.{at_state}
use Rattle.hm_class_book.proofs.Settled.{plain_illegal, plain_undrawn, plain_taken}
use Rattle.hm_class_book.proofs.class_book.ClassBook.settle.Goals as goal

pub returns-then-not-legal : goal.returns-then-not-legal
returns-then-not-legal c = λ s f. plain_illegal (at_state (said c.args.self.now) s) (state_in c.args.self.now.book) c.args.entry.now c.args.legal f c.if-not-legal.true

pub returns-then-used-ne0 : goal.returns-then-used-ne0
returns-then-used-ne0 c = λ s f. plain_undrawn (at_state (said c.args.self.now) s) (state_in c.args.self.now.book) c.args.entry.now c.args.legal f c.if-not-legal.false c.if-used-ne0.true

pub returns : goal.returns
returns c = λ s f. plain_taken (at_state (said c.args.self.now) s) (state_in c.args.self.now.book) c.args.entry.now c.args.legal f c.if-not-legal.false c.if-used-ne0.false
