use Rattle.std.proofs.Common.{sym, subst}
use Rattle.hm_model.specs.declared.entry.Reply.{Reply}
use Rattle.hm_model.specs.declared.entry.Call.TheVariants as call
use Rattle.hm_large_book.specs.Judged.{Judges}
use Rattle.hm_large_book.proofs.Calling.{fetch_refused}
use Rattle.hm_large_book.proofs.book.LargeBook.judge_fetch.Goals as goal

pub returns-in-Bytes : goal.returns-in-Bytes
returns-in-Bytes c = subst (λ (r : Reply). Judges c.args.self.now c.args.entry.now (call.Fetch c.args.addr c.args.len) r c.args.self.now c.fetched.result) (sym c.in-Bytes.is) c.fetched.ensures

pub returns-in-Trap : goal.returns-in-Trap
returns-in-Trap c = subst (λ (r : Reply). Judges c.args.self.now c.args.entry.now (call.Fetch c.args.addr c.args.len) r c.args.self.now c.fetch_trapped.result) (sym c.in-Trap.is) c.fetch_trapped.ensures

pub returns-in_default : goal.returns-in_default
returns-in_default c = fetch_refused c.args.self.now c.args.entry.now c.args.entry.now.reply c.args.addr c.args.len c.in_default.not-Bytes c.in_default.not-Trap
