-- What lending leaves.
use Rattle.std.specs.Borrow.{Lends, MutBor, Fml}
use Rattle.hm_slab_meta.specs.Uses.{SlabUse}
use Rattle.hm_slab_meta.specs.contracts.slab_meta.SlabMeta as meta
use Rattle.hm_slab_lists.specs.declared.slab.Slab.{Slab}
use Rattle.hm_slab_lists.specs.contracts.slab.Slab.{the_row}

abbrev pub with_meta : Slab → SlabUse → Slab
with_meta slab use_ = record slab { meta = use_ }

abbrev pub LendsMeta : MutBor Slab → MutBor SlabUse → Fml
LendsMeta s r = Lends the_row meta.the_row s r (with_meta s.now)
