use Rattle.hm_large_book.proofs.Releasing.{block_leaves, none_leaves, stays}
use Rattle.hm_large_book.proofs.blocks.BlockBook.release.Goals as goal

pub returns-then-not-may_release : goal.returns-then-not-may_release
returns-then-not-may_release c = λ config s sound shows r. none_leaves c.may_release.result c.if-not-may_release.true ((c.may_release.ensures config s shows).1 r)

pub returns-in-Some : goal.returns-in-Some
returns-in-Some c = λ config s sound shows. block_leaves config s c.let_go.new.self c.args.released c.in-Some.addr c.may_release.result c.in-Some.is c.if-not-may_release.false (c.may_release.ensures config s shows)
    (λ x there. c.let_go.ensures config s x sound shows there)

pub returns-in_default : goal.returns-in_default
returns-in_default c = λ config s sound shows. stays config s c.args.self.now c.args.released c.may_release.result c.in_default.not-Some c.if-not-may_release.false (c.may_release.ensures config s shows) shows
