use Rattle.hm_class_book.specs.Reached.{IsReached}
use Rattle.hm_class_book.specs.Said.{said}
use Rattle.hm_class_book.proofs.tests.judge.Given as goal

abbrev pub invariant-loop-entry : goal.invariant-loop-entry
invariant-loop-entry l = IsReached (said l.book)
