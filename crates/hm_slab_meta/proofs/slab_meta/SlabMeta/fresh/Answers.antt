use Rattle.hm_slab_meta.proofs.Slots.{fresh_uses}
use Rattle.hm_slab_meta.proofs.slab_meta.SlabMeta.fresh.Goals as goal

pub returns : goal.returns
returns c = fresh_uses c.empty.result c.empty-2.result c.empty-3.result c.empty-4.result c.args.slots c.requires.few c.empty.ensures c.empty-2.ensures c.empty-3.ensures c.empty-4.ensures
