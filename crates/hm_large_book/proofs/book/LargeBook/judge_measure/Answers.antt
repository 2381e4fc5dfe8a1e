use Rattle.std.proofs.Common.{sym, subst}
use Rattle.hm_model.specs.declared.entry.Reply.{Reply}
use Rattle.hm_model.specs.declared.entry.Call.TheVariants as call
use Rattle.hm_large_book.specs.Judged.{Judges}
use Rattle.hm_large_book.proofs.Calling.{measure_refused}
use Rattle.hm_large_book.proofs.book.LargeBook.judge_measure.Goals as goal

pub returns-in-NotLive : goal.returns-in-NotLive
returns-in-NotLive c = subst (λ (r : Reply). Judges c.args.self.now c.args.entry.now (call.Measure c.args.addr) r c.args.self.now c.measured_none.result) (sym c.in-NotLive.is) c.measured_none.ensures

pub returns-in-Usable : goal.returns-in-Usable
returns-in-Usable c = subst (λ (r : Reply). Judges c.args.self.now c.args.entry.now (call.Measure c.args.addr) r c.args.self.now c.measured.result) (sym c.in-Usable.is) c.measured.ensures

pub returns-in_default : goal.returns-in_default
returns-in_default c = measure_refused c.args.self.now c.args.entry.now c.args.entry.now.reply c.args.addr c.in_default.not-NotLive c.in_default.not-Usable
