use Rattle.std.proofs.Common.{◌++◌, List, ap, sym, ◌∙◌, take}
use Rattle.hm_model.specs.declared.entry.Entry.{Entry}
use Rattle.hm_model.specs.declared.change.SizeChange.{SizeChange}
use Rattle.hm_model.specs.Changes.{change, changes_of}
use Rattle.hm_heap.proofs.Changing.{changes_next}
use Rattle.hm_heap.proofs.changes.changes_of.Goals as goal

pub loop-entry-preserved : goal.loop-entry-preserved
loop-entry-preserved c = let e : Entry = c.entry-item.result in let es = c.args.entries.now in let i = c.loop-entry.entry-index in
    c.in_ok-add_change.ensures ∙ (ap (λ (z : List SizeChange). z ++ change e.call e.reply) c.loop-entry.invariant
    ∙ (ap (λ (z : Entry). changes_of (take i es) ++ change z.call z.reply) c.entry-item.is ∙ sym (changes_next es i e c.loop-entry-test.true)))
