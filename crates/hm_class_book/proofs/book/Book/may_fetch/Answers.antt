use Rattle.std.proofs.Common.{◌≡◌, sym, true≢false}
use Rattle.hm_class_book.specs.Book.{state_in, terms}
use Rattle.hm_class_book.proofs.Others.{other_fetch}
use Rattle.hm_class_book.proofs.book.Book.may_fetch.Goals as goal

pub returns-in_default : goal.returns-in_default
returns-in_default c = λ before now. (
  λ e. absurd (true≢false (sym e)),
  λ h. absurd (other_fetch (terms c.args.region.now) (state_in c.args.self.now) before now c.args.choices.now c.args.addr c.args.len c.args.reply.now c.in_default.not-Bytes c.in_default.not-Trap h),
)
