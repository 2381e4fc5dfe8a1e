use Rattle.std.proofs.Common.{◌∙◌, sym, ap}
use Rattle.std.specs.FinMap as finite
use Rattle.hm_slab_lists.specs.Table.{Table}
use Rattle.hm_slab_lists.proofs.ByNumber.{get_by_index}
use Rattle.hm_slab_lists.proofs.slab_lists.SlabLists.meta.Goals as goal

pub returns : goal.returns
returns c =
    c.meta.ensures
    ∙ sym (get_by_index c.self.inside.guard_interval c.self.invariant.guards_some c.self.invariant.guards_most c.self.inside.chains.metas c.index_in.result c.args.n c.index_in.ensures.found c.index_in.ensures.opened)
    ∙ ap (λ (t : Table). finite.get t.metas c.args.n) c.self.view_is
