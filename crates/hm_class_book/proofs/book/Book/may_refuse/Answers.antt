use Rattle.std.proofs.Common.{◌≡◌, sym, true≢false}
use Rattle.hm_class_book.specs.Book.{state_in, terms}
use Rattle.hm_class_book.proofs.Others.{other_back}
use Rattle.hm_class_book.proofs.book.Book.may_refuse.Goals as goal

pub returns-in_default : goal.returns-in_default
returns-in_default c = λ before now. (
  λ e. absurd (true≢false (sym e)),
  λ h. absurd (other_back (terms c.args.region.now) (state_in c.args.self.now) before now c.args.choices.now c.args.addr c.args.stated c.args.reply.now c.requires.refused c.in_default.not-NoSlot c.in_default.not-Unused c.in_default.not-DoubleFree c.in_default.not-WrongSize c.in_default.not-Canary h),
)
