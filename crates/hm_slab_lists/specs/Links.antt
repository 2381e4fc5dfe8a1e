-- The links of slabs, and the lists that they make.
use Rattle.std.specs.Prelude.{◌≡◌, ℕ, zero, suc, ◌<◌, true, List, [], ◌∷◌, length, map, Option, Some, None, option_map, slice_get, slice_index_or, slice_set}
use Rattle.hm_slab_meta.specs.Uses.{SlabUse}
use Rattle.hm_slab_lists.specs.declared.ends.Ends.{Ends}
use Rattle.hm_slab_lists.specs.declared.ends.AllEnds.{AllEnds}
use Rattle.hm_slab_lists.specs.declared.slab.Link.{Link}
use Rattle.hm_slab_lists.specs.declared.slab.Slab.{Slab}
use Rattle.hm_slab_lists.specs.declared.slab.ListName.{ListName}
use Rattle.hm_slab_lists.specs.Ends.{ends_in}
use Rattle.hm_base.specs.Members.{among, AreDistinct}
use Rattle.hm_slab_lists.specs.Lists.{Lists, list_in}

abbrev pub Links : Type 0
Links = List (Option Link)

abbrev pub links_of : List Slab → Links
links_of slabs = map (λ (slab : Slab). slab.link) slabs

abbrev pub metas_of : List Slab → List SlabUse
metas_of slabs = map (λ (slab : Slab). slab.meta) slabs

-- an index, if there is one, is that of a slab
abbrev pub IsBelow : Option ℕ → ℕ → Type 0
IsBelow None count = Unit {0}
IsBelow (Some at) count = at < count

-- ---- edits
abbrev pub follows : Option ℕ → Link → Link
follows next link = record link { next = next }

abbrev pub precedes : Option ℕ → Link → Link
precedes previous link = record link { previous = previous }

abbrev pub edited : Links → Option ℕ → (Link → Link) → Links
edited links None f = links
edited links (Some at) f = slice_set links at (option_map f (slice_index_or links at None))

abbrev pub with_next : Links → Option ℕ → Option ℕ → Links
with_next links at next = edited links at (follows next)

abbrev pub with_previous : Links → Option ℕ → Option ℕ → Links
with_previous links at previous = edited links at (precedes previous)

abbrev pub unlinked : Links → ℕ → Link → Links
unlinked links at link =
    slice_set (with_previous (with_next links link.previous link.next) link.next link.previous) at None

abbrev pub linked_first : Links → ListName → Ends → ℕ → Links
linked_first links list ends at =
    slice_set (with_previous links ends.first (Some at)) at
    (Some (record { list = list; previous = None; next = ends.first }))

abbrev pub linked_last : Links → ListName → Ends → ℕ → Links
linked_last links list ends at =
    slice_set (with_next links ends.last (Some at)) at
    (Some (record { list = list; previous = ends.last; next = None }))

-- ---- the lists
abbrev pub front : List ℕ → Option ℕ
front [] = None
front (x ∷ xs) = Some x

-- what follows a slab, if it is in a list and not its last
abbrev pub next_of : Option (Option Link) → Option ℕ
next_of None = None
next_of (Some None) = None
next_of (Some (Some link)) = link.next

-- so many slabs from one on, each followed by its next
abbrev pub walk : Links → ℕ → Option ℕ → List ℕ
walk links zero at = []
walk links (suc count) None = []
walk links (suc count) (Some at) = at ∷ walk links count (next_of (slice_get links at))

abbrev pub lists_of : Links → AllEnds → Lists
lists_of links all = record {
  partial = walk links all.partial.count all.partial.first;
  empty = walk links all.empty.count all.empty.first;
  full = walk links all.full.count all.full.first;
  retired = walk links all.retired.count all.retired.first;
}

-- each slab's link has its neighbours; `previous` is what precedes the first
abbrev pub Linked : Links → ListName → Option ℕ → Option ℕ → List ℕ → Type 0
Linked links list previous last [] = last ≡ previous
Linked links list previous last (x ∷ xs) =
    (slice_get links x ≡ Some (Some (record { list = list; previous = previous; next = front xs })))
    × Linked links list (Some x) last xs

-- the links and the ends say that this is the list
pub record IsChain (links : Links) (list : ListName) (ends : Ends) (xs : List ℕ) : Type 0 where
  pub first : ends.first ≡ front xs
  pub count : ends.count ≡ length xs
  pub linked : Linked links list None ends.last xs
  pub distinct : AreDistinct xs
  pub all : (x : ℕ) (link : Link) → slice_get links x ≡ Some (Some link) → link.list ≡ list → among x xs ≡ true

abbrev pub AreChains : Links → AllEnds → Lists → Type 0
AreChains links all lists = (list : ListName) → IsChain links list (ends_in all list) (list_in lists list)
