use Rattle.std.proofs.Common.{sym, subst}
use Rattle.std.specs.Prelude.{IfOk}
use Rattle.hm_model.specs.declared.entry.Call.{Call}
use Rattle.hm_large_book.specs.Judged.{Judges}
use Rattle.hm_large_book.proofs.book.LargeBook.judge.Goals as goal

pub returns-in-Allot : goal.returns-in-Allot
returns-in-Allot c = subst (λ (x : Call). IfOk c.judge_allot.result (Judges c.args.self.now c.args.entry.now x c.args.entry.now.reply c.judge_allot.new.self)) (sym c.in-Allot.is) c.judge_allot.ensures

pub returns-in-GiveBack : goal.returns-in-GiveBack
returns-in-GiveBack c = subst (λ (x : Call). IfOk c.judge_free.result (Judges c.args.self.now c.args.entry.now x c.args.entry.now.reply c.judge_free.new.self)) (sym c.in-GiveBack.is) c.judge_free.ensures

pub returns-in-Measure : goal.returns-in-Measure
returns-in-Measure c = subst (λ (x : Call). Judges c.args.self.now c.args.entry.now x c.args.entry.now.reply c.judge_measure.new.self c.judge_measure.result) (sym c.in-Measure.is) c.judge_measure.ensures

pub returns-in-Fetch : goal.returns-in-Fetch
returns-in-Fetch c = subst (λ (x : Call). Judges c.args.self.now c.args.entry.now x c.args.entry.now.reply c.judge_fetch.new.self c.judge_fetch.result) (sym c.in-Fetch.is) c.judge_fetch.ensures

pub returns-in-Fill : goal.returns-in-Fill
returns-in-Fill c = subst (λ (x : Call). Judges c.args.self.now c.args.entry.now x c.args.entry.now.reply c.judge_fill.new.self c.judge_fill.result) (sym c.in-Fill.is) c.judge_fill.ensures
