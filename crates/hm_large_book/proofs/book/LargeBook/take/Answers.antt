use Rattle.std.proofs.Common.{true≢false, sym, ◌∙◌}
use Rattle.hm_large_book.proofs.Taking.{reached_holds, says_not_formed, says_judged}
use Rattle.hm_large_book.proofs.book.LargeBook.take.Goals as goal

pub judge-requires-clause-asks : goal.judge-requires-clause-asks
judge-requires-clause-asks c = (c.is_formed.ensures.0 c.if-not-is_formed.false).asks

pub judge-requires-clause-stands : goal.judge-requires-clause-stands
judge-requires-clause-stands c = reached_holds c.args.self.now c.requires

pub returns-then-not-is_formed : goal.returns-then-not-is_formed
returns-then-not-is_formed c = λ config seed es h. says_not_formed config seed es c.args.self.now c.args.entry.now (λ f. true≢false (sym (c.is_formed.ensures.1 f) ∙ c.if-not-is_formed.true)) h

pub returns : goal.returns
returns c = λ config seed es h. says_judged es c.args.self.now c.judge.new.self c.args.entry.now (c.is_formed.ensures.0 c.if-not-is_formed.false) config seed c.in_ok-judgement.judgement c.in_ok-judgement.ensures h
