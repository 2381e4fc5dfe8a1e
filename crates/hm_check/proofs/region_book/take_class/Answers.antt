use Rattle.std.proofs.Common.{subst}
use Rattle.hm_model.specs.declared.judgement.Judgement.{Judgement}
use Rattle.hm_class_book.specs.Reached.{IsJudged}
use Rattle.hm_class_book.specs.Said.{said}
use Rattle.hm_check.proofs.Books.{refused_class, taken_class, undrawn_class}
use Rattle.hm_check.proofs.region_book.take_class.Goals as goal

pub returns-in-Taken : goal.returns-in-Taken
returns-in-Taken c = λ config seed region past h.
    taken_class config seed region past c.args.book.now h c.args.entry.now c.take.new.self
    (subst (λ (j : Judgement). IsJudged (said c.args.book.now) (said c.take.new.self) c.args.entry.now j) c.in-Taken.is
    c.in_ok-take.ensures)

pub returns-in-NotLegal : goal.returns-in-NotLegal
returns-in-NotLegal c = λ config seed region past h.
    refused_class config seed region past c.args.book.now h c.args.entry.now
    (subst (λ (j : Judgement). IsJudged (said c.args.book.now) (said c.take.new.self) c.args.entry.now j)
    c.in-NotLegal.is c.in_ok-take.ensures)

pub returns-in-NotDrawn : goal.returns-in-NotDrawn
returns-in-NotDrawn c = λ config seed region past h.
    undrawn_class config seed region past c.args.book.now h c.args.entry.now
    (subst (λ (j : Judgement). IsJudged (said c.args.book.now) (said c.take.new.self) c.args.entry.now j)
    c.in-NotDrawn.is c.in_ok-take.ensures)
