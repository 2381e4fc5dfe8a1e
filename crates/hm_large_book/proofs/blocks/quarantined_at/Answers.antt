use Rattle.std.proofs.Common.{sym}
use Rattle.hm_large_book.proofs.Finding.{passed_at, found_at}
use Rattle.hm_large_book.proofs.blocks.quarantined_at.Goals as goal

pub returns-then-start-addr : goal.returns-then-start-addr
returns-then-start-addr c = sym (found_at c.args.addr c.args.quarantined.now c.loop-start.start-index (0, record { size = 0; guard = 0 }) c.loop-start.invariant c.loop-start-test.true c.if-start-addr.true)

pub loop-start-preserved : goal.loop-start-preserved
loop-start-preserved c = passed_at c.args.addr c.args.quarantined.now c.loop-start.start-index (0, record { size = 0; guard = 0 }) c.loop-start.invariant c.loop-start-test.true c.if-start-addr.false
