use Rattle.std.proofs.Common.{subst}
use Rattle.std.specs.FinMap as map
use Rattle.hm_region_table.specs.Table.{Table}
use Rattle.hm_large.specs.BlockTable.{FindsLast, live_size}
use Rattle.hm_large.proofs.BlockTables.{last_alike}
use Rattle.hm_large.proofs.block_table.BlockTable.last_live.Goals as goal

pub returns : goal.returns
returns c =
    subst (λ (t : Table). FindsLast (λ q. live_size (map.get t.blocks q)) c.args.addr c.last_begun.result) c.self.view_is
    (last_alike _ _ c.args.addr c.last_begun.result c.self.invariant c.last_begun.ensures)
