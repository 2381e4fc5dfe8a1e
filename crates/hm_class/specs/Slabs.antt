-- The slabs of a region, as the layers above see them.
use Rattle.std.specs.Prelude.{◌≡◌, ℕ, ◌<◌, ◌≤◌, Bool, true, List, [], ◌∷◌, map, length, replicate, Option, None, Some, is_some, option_map, slice_index_or, slice_set}
use Rattle.std.specs.List.{range_with_len}
use Rattle.std.specs.FinMap as finite
use Rattle.hm_class_rules.specs.Kinds.{Kind, Partial, Empty, Neither}
use Rattle.hm_slab_lists.specs.declared.slab.ListName.{ListName}
use Rattle.hm_slab_lists.specs.declared.slab.ListName.TheVariants as name
use Rattle.hm_slab_lists.specs.Lists.{Lists, no_lists, gone, headed}
use Rattle.hm_slab_lists.specs.Table.{Table, is_open, unparked}
use Rattle.hm_slab_meta.specs.Uses as meta
use Rattle.hm_class.specs.Uses.{Uses, SlabUse, Numbers, with_open, with_shut, taken_uses}

pub record Slabs : Type 0 where
  -- how the slots of each slab are used
  pub slabs : Uses
  -- the lists of slab numbers, each with its front first, and the parking array
  pub lists : Lists
  pub parking : List (Option ℕ)
  -- room for further fresh slabs
  pub spare : ℕ
  pub numbers : Numbers

-- no slab
abbrev pub no_slabs : Numbers → ℕ → Slabs
no_slabs numbers park_length = record {
  slabs = [];
  lists = no_lists;
  parking = replicate park_length None;
  spare = 0;
  numbers = numbers;
}

abbrev pub with_spare : ℕ → Slabs → Slabs
with_spare spare k = record k { spare = spare }

-- there is room for the slab that is opened next: a fresh one takes some, one that was shut has its own
abbrev pub HasRoom : Slabs → Type 0
HasRoom k = k.lists.retired ≡ [] → 1 ≤ k.spare

-- the slabs, once the next one comes from those that are shut, or is a fresh one
abbrev pub taken_of : Slabs → Uses
taken_of k = taken_uses k.numbers k.lists.retired k.slabs

-- the list in which an open slab of a kind stands
abbrev pub list_of : Kind → ListName
list_of Partial = name.Partial
list_of Empty = name.Empty
list_of Neither = name.Full

-- slab n heads the empty list; where it was retired it leaves that list
abbrev pub opened_in : List ℕ → ℕ → Lists → Lists
opened_in [] n lists = headed name.Empty n lists
opened_in (m ∷ ms) n lists = headed name.Empty n (gone n lists)

abbrev pub opened_lists : ℕ → Lists → Lists
opened_lists n lists = opened_in lists.retired n lists

-- ---- what stays
-- the lists are as before
pub record SameLists (old new : Slabs) : Type 0 where
  pub lists : new.lists ≡ old.lists
  pub parking : new.parking ≡ old.parking
  pub numbers : new.numbers ≡ old.numbers

-- the slots are as before
pub record SameSlots (old new : Slabs) : Type 0 where
  pub slabs : new.slabs ≡ old.slabs
  pub parking : new.parking ≡ old.parking
  pub numbers : new.numbers ≡ old.numbers

-- slab n, which is opened next, was opened with this canary
pub record OpensSlab (n canary : ℕ) (old new : Slabs) : Type 0 where
  pub slabs : new.slabs ≡ with_open (taken_of old) n canary
  pub lists : new.lists ≡ opened_lists n old.lists
  pub parking : new.parking ≡ old.parking
  pub numbers : new.numbers ≡ old.numbers

-- slab n was shut, and stands in the parking array; what stood there ends the list of those that are shut
pub record Parks (n park : ℕ) (old new : Slabs) : Type 0 where
  pub slabs : new.slabs ≡ with_shut old.slabs n
  pub lists : new.lists ≡ unparked (slice_index_or old.parking park None) (gone n old.lists)
  pub parking : new.parking ≡ slice_set old.parking park (Some n)
  pub numbers : new.numbers ≡ old.numbers

-- ---- the slabs of a table
abbrev pub shown : Bool → meta.SlabUse → SlabUse
shown opened slab = record { slots = slab.slots; canary = slab.canary; opened = opened }

-- slab n of a table, where it was ever opened
abbrev pub slab_in_table : Table → ℕ → Option SlabUse
slab_in_table t n = option_map (shown (is_open n t)) (finite.get t.metas n)

unfoldable pub uses_of : Table → Uses
uses_of t = map (slab_in_table t) (range_with_len 0 t.next)

abbrev pub numbers_in : Table → Numbers
numbers_in t = record { limit = t.limit; guard_interval = t.guard_interval; slots = t.slots }

abbrev pub slabs_of : Table → Slabs
slabs_of t = record {
  slabs = uses_of t;
  lists = t.lists;
  parking = t.parking;
  spare = t.spare;
  numbers = numbers_in t;
}

-- slabs that were opened have numbers below the next one, and all their slots; open slabs are among them
pub record IsFiled (t : Table) : Type 0 where
  pub below : (n : ℕ) → is_some (finite.get t.metas n) ≡ true → n < t.next
  pub there : (n : ℕ) → is_open n t ≡ true → is_some (finite.get t.metas n) ≡ true
  pub whole : (n : ℕ) (slab : meta.SlabUse) → finite.get t.metas n ≡ Some slab → length slab.slots ≡ t.slots
  pub some : 1 ≤ t.slots
