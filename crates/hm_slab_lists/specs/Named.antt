-- The list that the slots of a slab name.
use Rattle.std.specs.Prelude.{if◌then◌else◌}
use Rattle.std.specs.List.{list_all, list_any}
use Rattle.hm_slab_meta.specs.Uses.{SlabUse, is_available}
use Rattle.hm_slab_lists.specs.declared.slab.ListName.{ListName}
use Rattle.hm_slab_lists.specs.declared.slab.ListName.TheVariants.{Partial, Empty, Full}

-- empty where all slots are available, partial where some but not all are, else full
abbrev pub list_named : SlabUse → ListName
list_named slab =
    if list_all is_available slab.slots then Empty else if list_any is_available slab.slots then Partial else Full
