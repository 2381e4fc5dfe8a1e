use Rattle.std.proofs.Common.{refl}
use Rattle.std.proofs.lemmas.List.{map-set}
use Rattle.std.proofs.Math.Seq.{map-set_same}
use Rattle.hm_slab_lists.specs.declared.slab.Slab.{Slab}
use Rattle.hm_slab_lists.proofs.links.set_link.Goals as goal

pub returns-clause-links : goal.returns-clause-links
returns-clause-links c = map-set (λ (s : Slab). s.link) c.args.slabs.now c.args.at _

pub returns-clause-metas : goal.returns-clause-metas
returns-clause-metas c = map-set_same (λ (s : Slab). s.meta) c.args.slabs.now c.args.at _ c.index-slabs-at.result refl
