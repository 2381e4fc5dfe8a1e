use Rattle.std.proofs.Common.{rules, ◌==◌, ℕ, Bool, cond, Option, Some, sym, ◌∙◌, ap, subst, refl}
use Rattle.std.specs.Ordering.{nat_cmp}
use Rattle.std.specs.BTreeMap as tree
use Rattle.hm_region_table.specs.Table.{Table}
use Rattle.hm_large.specs.BlockTable.{Updates}
use Rattle.hm_large_rules.proofs.SizeMaps.{tree_test}
use Rattle.hm_large.proofs.BlockTables.{inserted, live_changed, live_of}
use Rattle.hm_large.proofs.block_table.BlockTable.insert.Goals as goal

pub invariant_of-self-2 : goal.invariant_of-self-2
invariant_of-self-2 c =
    let old = c.self.inside in
    let a = c.args.addr in
    let b = c.args.block in
    live_changed old.table c.insert-2.new.self old.live c.insert.new.self a (Some b) c.self.invariant
    (inserted old.table c.insert-2.new.self a b c.insert-2.ensures.blocks)
    (λ q. c.in_ok-insert.ensures.updates.0 q ∙ (ap (λ (t : Bool). cond t (Some b.size) (tree.get nat_cmp old.live q)) (tree_test a q)
    ∙ ap (λ (o : Option ℕ). cond (a == q) o (tree.get nat_cmp old.live q)) (sym (live_of b b.size c.requires.live refl))))

pub returns-clause-ok : goal.returns-clause-ok
returns-clause-ok c = record {
  put = subst (λ (t : Table). Updates t c.insert-2.new.self c.args.addr (Some c.args.block)) c.self.view_is
      (inserted c.self.inside.table c.insert-2.new.self c.args.addr c.args.block c.insert-2.ensures.blocks);
  spare = search rules;
}
