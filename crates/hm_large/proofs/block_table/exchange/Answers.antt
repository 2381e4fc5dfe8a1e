use Rattle.std.proofs.Common.{Some, None}
use Rattle.hm_large.proofs.BlockTables.{inserted, taken_out, again, at_updated}
use Rattle.hm_large.proofs.block_table.exchange.Goals as goal

pub insert-requires-clause-fresh : goal.insert-requires-clause-fresh
insert-requires-clause-fresh c =
    at_updated c.args.table.now c.remove-before.new.self c.args.addr None (taken_out c.args.table.now c.remove-before.new.self c.args.addr c.remove-before.ensures.blocks)

pub returns-clause-put : goal.returns-clause-put
returns-clause-put c =
    again c.args.table.now c.remove-before.new.self c.insert.new.self c.args.addr None (Some c.args.block)
    (taken_out c.args.table.now c.remove-before.new.self c.args.addr c.remove-before.ensures.blocks)
    (inserted c.remove-before.new.self c.insert.new.self c.args.addr c.args.block c.insert.ensures.blocks)
