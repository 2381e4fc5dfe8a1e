use Rattle.std.proofs.Common.{sym, ap, ◌∙◌}
use Rattle.hm_large_rules.specs.Steps.{mark}
use Rattle.hm_large_book.specs.Book.{block_in}
use Rattle.hm_large_book.proofs.Changing.{mark_next}
use Rattle.hm_large_book.proofs.changes.mark.Goals as goal

pub loop-entry-preserved : goal.loop-entry-preserved
loop-entry-preserved c = mark_next c.args.addr c.args.live.now c.loop-entry.live c.loop-entry.auto.live c.loop-entry.entry-index c.entry-item.result c.mark_block.new.entry c.loop-entry-test.true c.entry-item.is
    (c.mark_block.ensures ∙ ap (λ x. mark c.args.addr (block_in x)) (sym c.entry-item.is)) c.loop-entry.invariant
