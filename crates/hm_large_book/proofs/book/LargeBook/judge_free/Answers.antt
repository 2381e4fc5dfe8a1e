use Rattle.std.proofs.Common.{sym, subst}
use Rattle.std.specs.Prelude.{IfOk}
use Rattle.hm_model.specs.declared.entry.Reply.{Reply}
use Rattle.hm_model.specs.declared.entry.Call.TheVariants as call
use Rattle.hm_large_book.specs.Judged.{Judges}
use Rattle.hm_large_book.proofs.Calling.{free_refused}
use Rattle.hm_large_book.proofs.book.LargeBook.judge_free.Goals as goal

pub returns-in-NotLive : goal.returns-in-NotLive
returns-in-NotLive c = subst (λ (r : Reply). Judges c.args.self.now c.args.entry.now (call.GiveBack c.args.addr c.args.stated) r c.args.self.now c.freed_none.result) (sym c.in-NotLive.is) c.freed_none.ensures

pub returns-in-WrongSize : goal.returns-in-WrongSize
returns-in-WrongSize c = subst (λ (r : Reply). Judges c.args.self.now c.args.entry.now (call.GiveBack c.args.addr c.args.stated) r c.args.self.now c.freed_wrong.result) (sym c.in-WrongSize.is) c.freed_wrong.ensures

pub returns-in-PagesFailed : goal.returns-in-PagesFailed
returns-in-PagesFailed c = subst (λ (r : Reply). Judges c.args.self.now c.args.entry.now (call.GiveBack c.args.addr c.args.stated) r c.free_fault.new.self c.free_fault.result) (sym c.in-PagesFailed.is) c.free_fault.ensures

pub returns-in-Freed : goal.returns-in-Freed
returns-in-Freed c = subst (λ (r : Reply). IfOk c.freed.result (Judges c.args.self.now c.args.entry.now (call.GiveBack c.args.addr c.args.stated) r c.freed.new.self)) (sym c.in-Freed.is) c.freed.ensures

pub returns-in_default : goal.returns-in_default
returns-in_default c = free_refused c.args.self.now c.args.entry.now c.args.entry.now.reply c.args.addr c.args.stated c.in_default.not-NotLive c.in_default.not-WrongSize c.in_default.not-PagesFailed c.in_default.not-Freed
