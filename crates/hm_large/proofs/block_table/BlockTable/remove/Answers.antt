use Rattle.std.proofs.Common.{Bool, cond, None, ◌∙◌, ap, subst}
use Rattle.std.specs.Ordering.{nat_cmp}
use Rattle.std.specs.BTreeMap as tree
use Rattle.hm_region_table.specs.Table.{Table}
use Rattle.hm_large.specs.BlockTable.{Updates}
use Rattle.hm_large_rules.proofs.SizeMaps.{tree_test}
use Rattle.hm_large.proofs.BlockTables.{taken_out, live_changed}
use Rattle.hm_large.proofs.block_table.BlockTable.remove.Goals as goal

pub invariant_of-self : goal.invariant_of-self
invariant_of-self c =
    let old = c.self.inside in
    let a = c.args.addr in
    live_changed old.table c.remove.new.self old.live c.remove-size.new.self a None c.self.invariant
    (taken_out old.table c.remove.new.self a c.remove.ensures.blocks)
    (λ q. c.remove-size.ensures.updates.0 q ∙ ap (λ (t : Bool). cond t None (tree.get nat_cmp old.live q)) (tree_test a q))

pub returns-clause-blocks : goal.returns-clause-blocks
returns-clause-blocks c =
    subst (λ (t : Table). Updates t c.remove.new.self c.args.addr None) c.self.view_is
    (taken_out c.self.inside.table c.remove.new.self c.args.addr c.remove.ensures.blocks)
