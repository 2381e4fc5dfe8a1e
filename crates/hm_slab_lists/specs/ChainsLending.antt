-- What a write to the metadata of one slab leaves.
use Rattle.std.specs.Prelude.{ℕ, Option, slice_set}
use Rattle.std.specs.Borrow.{LendsIf, MutBor, Fml}
use Rattle.hm_slab_meta.specs.Uses.{SlabUse}
use Rattle.hm_slab_meta.specs.contracts.slab_meta.SlabMeta as meta
use Rattle.hm_slab_lists.specs.Chained.{Chained}
use Rattle.hm_slab_lists.specs.contracts.chains.Chains.{the_row}

abbrev pub with_meta_at : Chained → ℕ → SlabUse → Chained
with_meta_at slabs at use_ = record slabs { metas = slice_set slabs.metas at use_ }

abbrev pub LendsMetaAt : MutBor Chained → ℕ → Option (MutBor SlabUse) → Fml
LendsMetaAt slabs at lent = LendsIf the_row meta.the_row slabs lent (with_meta_at slabs.now at) slabs.now
