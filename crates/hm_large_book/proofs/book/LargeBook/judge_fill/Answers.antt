use Rattle.std.proofs.Common.{sym, subst}
use Rattle.hm_model.specs.declared.entry.Reply.{Reply}
use Rattle.hm_model.specs.declared.entry.Call.TheVariants as call
use Rattle.hm_large_book.specs.Judged.{Judges}
use Rattle.hm_large_book.proofs.Calling.{fill_refused}
use Rattle.hm_large_book.proofs.book.LargeBook.judge_fill.Goals as goal

pub returns-in-Filled : goal.returns-in-Filled
returns-in-Filled c = subst (λ (r : Reply). Judges c.args.self.now c.args.entry.now (call.Fill c.args.addr c.args.runs.now) r c.filled.new.self c.filled.result) (sym c.in-Filled.is) c.filled.ensures

pub returns-in-Trap : goal.returns-in-Trap
returns-in-Trap c = subst (λ (r : Reply). Judges c.args.self.now c.args.entry.now (call.Fill c.args.addr c.args.runs.now) r c.args.self.now c.fill_trapped.result) (sym c.in-Trap.is) c.fill_trapped.ensures

pub returns-in_default : goal.returns-in_default
returns-in_default c = fill_refused c.args.self.now c.args.entry.now c.args.entry.now.reply c.args.addr c.args.runs.now c.in_default.not-Filled c.in_default.not-Trap
