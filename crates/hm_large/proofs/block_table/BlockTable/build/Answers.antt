use Rattle.hm_large.proofs.BlockTables.{nothing_there, none_live}
use Rattle.hm_large.proofs.block_table.BlockTable.build.Goals as goal

pub invariant_of-result : goal.invariant_of-result
invariant_of-result c = none_live c.in_ok-table.table c.new.result c.in_ok-table.ensures.blocks c.new.ensures.empty

pub returns-clause-blocks : goal.returns-clause-blocks
returns-clause-blocks c = nothing_there c.in_ok-table.table c.in_ok-table.ensures.blocks
