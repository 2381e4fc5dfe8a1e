use Rattle.std.proofs.Common.{sym, subst}
use Rattle.std.specs.Prelude.{IfOk}
use Rattle.hm_model.specs.declared.entry.Reply.{Reply}
use Rattle.hm_model.specs.declared.entry.Call.TheVariants as call
use Rattle.hm_large_book.specs.Judged.{Judges}
use Rattle.hm_large_book.proofs.Calling.{allot_refused}
use Rattle.hm_large_book.proofs.book.LargeBook.judge_allot.Goals as goal

pub returns-in-Given : goal.returns-in-Given
returns-in-Given c = subst (λ (r : Reply). IfOk c.given.result (Judges c.args.self.now c.args.entry.now (call.Allot c.args.asked c.args.align) r c.given.new.self)) (sym c.in-Given.is) c.given.ensures

pub returns-in-NoSpace : goal.returns-in-NoSpace
returns-in-NoSpace c = subst (λ (r : Reply). Judges c.args.self.now c.args.entry.now (call.Allot c.args.asked c.args.align) r c.no_space.new.self c.no_space.result) (sym c.in-NoSpace.is) c.no_space.ensures

pub returns-in-PagesFailed : goal.returns-in-PagesFailed
returns-in-PagesFailed c = subst (λ (r : Reply). Judges c.args.self.now c.args.entry.now (call.Allot c.args.asked c.args.align) r c.allot_fault.new.self c.allot_fault.result) (sym c.in-PagesFailed.is) c.allot_fault.ensures

pub returns-in_default : goal.returns-in_default
returns-in_default c = allot_refused c.args.self.now c.args.entry.now c.args.entry.now.reply c.args.asked c.args.align c.in_default.not-Given c.in_default.not-NoSpace c.in_default.not-PagesFailed
