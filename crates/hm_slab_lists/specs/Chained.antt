-- Slabs by index, as the layer of links shows them.
use Rattle.std.specs.Prelude.{◌≡◌, ℕ, suc, ◌+◌, ◌-◌, ◌≤◌, List, [], ◌∷◌, ◌++◌, length, Some, None}
use Rattle.hm_slab_meta.specs.Uses.{SlabUse}
use Rattle.hm_slab_lists.specs.declared.ends.AllEnds.{AllEnds}
use Rattle.hm_slab_lists.specs.declared.slab.Slab.{Slab}
use Rattle.hm_slab_lists.specs.Links.{Links, links_of, lists_of, AreChains}
use Rattle.hm_slab_lists.specs.Lists.{Lists, no_lists}

-- what is kept of each slab; the lists of their indices; and room for further slabs
pub record Chained : Type 0 where
  pub metas : List SlabUse
  pub lists : Lists
  pub room : ℕ

abbrev pub no_slabs : Chained
no_slabs = record { metas = []; lists = no_lists; room = 0 }

abbrev pub with_lists : Lists → Chained → Chained
with_lists lists slabs = record slabs { lists = lists }

-- one more slab, in no list
abbrev pub with_slab : SlabUse → Chained → Chained
with_slab meta slabs = record { metas = slabs.metas ++ meta ∷ []; lists = slabs.lists; room = slabs.room - 1 }

abbrev pub total : AllEnds → ℕ
total all = ((all.partial.count + all.empty.count) + all.full.count) + all.retired.count

-- how many slabs are in a list
abbrev pub linked_count : Links → ℕ
linked_count [] = 0
linked_count (None ∷ links) = linked_count links
linked_count (Some link ∷ links) = suc (linked_count links)

-- the links make lists, and no slab is in two
pub record IsChained (slabs : List Slab) (all : AllEnds) : Type 0 where
  pub chains : AreChains (links_of slabs) all (lists_of (links_of slabs) all)
  pub counted : total all ≡ linked_count (links_of slabs)
  pub few : total all ≤ length slabs
