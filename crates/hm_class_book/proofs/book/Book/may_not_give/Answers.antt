use Rattle.std.proofs.Common.{◌≡◌, sym, true≢false}
use Rattle.hm_class_book.specs.Book.{state_in, terms}
use Rattle.hm_class_book.proofs.Others.{other_allot}
use Rattle.hm_class_book.proofs.book.Book.may_not_give.Goals as goal

pub returns-in_default : goal.returns-in_default
returns-in_default c = λ asked align. (
  λ e. absurd (true≢false (sym e)),
  λ h. absurd (other_allot (terms c.args.region.now) (state_in c.args.self.now) c.args.counts.0 c.args.counts.1 c.args.choices.now asked align c.args.reply.now c.requires.given c.requires.overwritten c.in_default.not-Exhausted c.in_default.not-PagesFailed h),
)
