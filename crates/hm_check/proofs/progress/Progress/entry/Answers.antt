use Rattle.hm_check.specs.Progress.{region_of}
use Rattle.hm_check.proofs.Kept.{book_of, made_comes, some_book}
use Rattle.hm_check.proofs.progress.Progress.entry.Goals as goal

pub take-requires : goal.take-requires
take-requires c =
    some_book c.args.self.now c.args.left c.in-Some-book.book c.requires.stage c.in-Some-book.is c.requires.ready

pub returns : goal.returns
returns c = λ past k.
    let p = c.args.self.now in
    let found = rw c.in-Some.is at c.in_ok-entry.ensures.found in
    let open_book = book_of p past c.args.left c.in-Some-book.book c.requires.stage c.in-Some-book.is k in
    made_comes p past c.args.line.now k c.in-Some.entry c.args.left c.take.new.self c.in_ok-fault.fault c.requires.stage
    c.requires.some open_book.0 found.0 found.1 found.2
    (c.in_ok-fault.ensures p.config p.seed (region_of p) past open_book.1)
