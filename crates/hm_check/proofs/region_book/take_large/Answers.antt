use Rattle.std.proofs.Common.{subst}
use Rattle.hm_model.specs.declared.judgement.Judgement.{Judgement}
use Rattle.hm_large_book.specs.Reached.{Says}
use Rattle.hm_check.proofs.Books.{refused_large, undrawn_large}
use Rattle.hm_check.proofs.region_book.take_large.Goals as goal

pub returns-in-NotLegal : goal.returns-in-NotLegal
returns-in-NotLegal c = λ config seed past h. refused_large config seed past c.args.entry.now
    (subst (λ (j : Judgement). Says config seed past c.args.entry.now c.take.new.self j) c.in-NotLegal.is
    (c.in_ok-take.ensures config seed past h))

pub returns-in-NotDrawn : goal.returns-in-NotDrawn
returns-in-NotDrawn c = λ config seed past h. undrawn_large config seed past c.args.entry.now c.args.book.now h
    (subst (λ (j : Judgement). Says config seed past c.args.entry.now c.take.new.self j) c.in-NotDrawn.is
    (c.in_ok-take.ensures config seed past h))
