-- What a write to the metadata of one slab leaves.
use Rattle.std.specs.Prelude.{ℕ, Option}
use Rattle.std.specs.Borrow.{LendsIf, MutBor, Fml}
use Rattle.std.specs.FinMap as finite
use Rattle.hm_slab_meta.specs.Uses.{SlabUse}
use Rattle.hm_slab_meta.specs.contracts.slab_meta.SlabMeta as meta
use Rattle.hm_slab_lists.specs.Table.{Table}
use Rattle.hm_slab_lists.specs.contracts.slab_lists.SlabLists.{the_row}

abbrev pub with_meta_of : Table → ℕ → SlabUse → Table
with_meta_of t n use_ = record t { metas = finite.insert t.metas n use_ }

abbrev pub LendsMetaOf : MutBor Table → ℕ → Option (MutBor SlabUse) → Fml
LendsMetaOf t n lent = LendsIf the_row meta.the_row t lent (with_meta_of t.now n) t.now
