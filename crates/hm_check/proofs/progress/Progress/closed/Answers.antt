use Rattle.std.proofs.Common.{rules, arith}
use Rattle.hm_journal.specs.Ranges.{Fits64}
use Rattle.hm_check.specs.Progress.{region_of}
use Rattle.hm_check.proofs.Kept.{book_of, closed_passes, closed_wrong}
use Rattle.hm_check.proofs.progress.Progress.closed.Goals as goal

pub returns-then-faults : goal.returns-then-faults
returns-then-faults c = λ past k.
    let p = c.args.self.now in
    let found = rw c.in-Some.is at c.in_ok-faults.ensures.found in
    let fits : Fits64 c.in-Some.faults = search rules in
    let known = c.faults.ensures p.config p.seed (region_of p) past
    (book_of p past 0 c.in-Some-book.book c.requires.stage c.in-Some-book.is k).1 in
    closed_wrong p past c.args.line.now k c.in-Some.faults c.requires.stage fits found
    (λ last. omega (arith, last, known, c.if-faults.true))

pub returns : goal.returns
returns c = λ past k.
    let p = c.args.self.now in
    let found = rw c.in-Some.is at c.in_ok-faults.ensures.found in
    let fits : Fits64 c.in-Some.faults = search rules in
    let known = c.faults.ensures p.config p.seed (region_of p) past
    (book_of p past 0 c.in-Some-book.book c.requires.stage c.in-Some-book.is k).1 in
    closed_passes p past c.args.line.now k c.in-Some.faults c.requires.stage fits found
    (omega (arith, known, c.if-faults.false))
