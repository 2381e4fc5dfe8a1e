use Rattle.hm_slab_meta.proofs.Searches.{is_all}
use Rattle.hm_slab_meta.proofs.slab_meta.SlabMeta.is_all_free.Goals as goal

pub returns : goal.returns
returns c = is_all c.taken.result c.args.self.now.slots c.is_empty.result c.taken.ensures.few c.taken.ensures.marks c.is_empty.ensures.0 c.is_empty.ensures.1
