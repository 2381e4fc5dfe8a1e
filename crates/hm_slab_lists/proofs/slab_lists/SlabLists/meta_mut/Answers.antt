use Rattle.std.proofs.Common.{refl, sym, ap, ◌∙◌}
use Rattle.std.specs.FinMap as finite
use Rattle.hm_slab_lists.specs.Table.{Table}
use Rattle.hm_slab_lists.proofs.ByNumber.{get_by_index}
use Rattle.std.proofs.Math.ListN.{length-set}
use Rattle.hm_slab_lists.specs.ChainsLending.{with_meta_at}
use Rattle.hm_slab_lists.proofs.Tables.{table_same, shown_lent, lent_if, lent_below}
use Rattle.hm_slab_lists.proofs.slab_lists.SlabLists.meta_mut.Goals as goal

pub invariant_of-self-lent : goal.invariant_of-self-lent
invariant_of-self-lent c = λ _. (
  λ w. table_same c.self.inside.chains (with_meta_at c.self.inside.chains c.index_in-index.result w) c.self.inside.parking.items c.self.inside.limit c.self.inside.guard_interval c.self.inside.slots c.self.invariant (length-set c.self.inside.chains.metas c.index_in-index.result w) refl,
  c.self.invariant,
)

pub returns : goal.returns
returns c =
    let has = sym (ap (λ (t : Table). finite.get t.metas c.args.n) c.self.view_is) ∙ get_by_index c.self.inside.guard_interval c.self.invariant.guards_some c.self.invariant.guards_most c.self.inside.chains.metas c.index_in-index.result c.args.n c.index_in-index.ensures.found c.index_in-index.ensures.opened in (
      lent_if c.meta_mut.result _ _ _ _
          (λ is w. let below = lent_below c.meta_mut.result c.self.inside.chains.metas c.index_in-index.result c.meta_mut.ensures.value is in
          shown_lent c.self.inside.chains c.self.inside.parking.items c.self.inside.limit c.self.inside.guard_interval c.self.inside.slots c.args.n c.index_in-index.result w c.args.self.now c.self.invariant.guards_some c.self.invariant.guards_most below (c.index_in-index.ensures.found below) c.self.view_is)
          c.self.view_is,
      record {
        writes_back = tt;
        value = c.meta_mut.ensures.value ∙ sym has;
      },
    )
