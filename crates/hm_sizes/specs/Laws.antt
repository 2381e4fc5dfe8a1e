-- Laws of sizes, shapes and places.
use Rattle.std.specs.Prelude.{◌≡◌, ◌≢◌, ℕ, ◌+◌, ◌*◌, ◌%◌, ◌^◌, ◌<◌, ◌≤◌, ◌↔◌, ◌⊎◌, max}
use Rattle.hm_base.specs.declared.region.RegionId.{RegionId}
use Rattle.hm_sizes.specs.declared.config.Config.{Config}
use Rattle.hm_sizes.specs.declared.class.ClassId.{ClassId}
use Rattle.hm_sizes.specs.declared.class.Kind.{Kind}
use Rattle.hm_sizes.specs.declared.class.Kind.TheVariants.{Small, Large, TooLarge}
use Rattle.hm_sizes.specs.declared.shape.Shape.{Shape}
use Rattle.hm_sizes.specs.declared.home.Home.TheVariants.{Class, Large as LargeHome}
use Rattle.hm_sizes.specs.Classes.{class_count, slot_size, class_size}
use Rattle.hm_sizes.specs.Sizes.{block_size, large_size, IsKindOf}
use Rattle.hm_sizes.specs.Aligned.{IsAlignment, IsAlignedKindOf}
use Rattle.hm_sizes.specs.Configs.{IsValid}
use Rattle.hm_sizes.specs.Shapes.{region_start, shape_of, slab_at, slab_of, slot_of, after, IsShape, IsGuard, IsPlace, IsPlaceOf}
use Rattle.hm_sizes.specs.Homes.{large_start, region_of, home_of, IsInRegion, IsInLargeSpace}

-- ---- sizes
-- a later class has greater blocks
abbrev pub SizesAscend : Type 0
SizesAscend = (smaller greater : ℕ) → smaller < greater → greater < class_count → class_size smaller < class_size greater

-- the size of the block that a request gets where it goes
abbrev pub size_given : ℕ → Kind → ℕ
size_given asked (Small class) = class_size class.0
size_given asked (Large size) = size
size_given asked TooLarge = asked

-- the size of a request's block is that of the kind to which it goes
abbrev pub SizesAgree : Type 0
SizesAgree = (asked : ℕ) (kind : Kind) → IsKindOf asked kind → block_size asked ≡ size_given asked kind

-- what holds of the size of a large block for this raised size
pub record IsLargeSize (raised size : ℕ) : Type 0 where
  pub some : 1 ≤ size
  pub holds : raised ≤ size
  pub pages : size % 4096 ≡ 0
  pub most : size ≤ 2 ^ 30

-- large blocks are whole pages, and none is above the greatest request
abbrev pub LargeSizes : Type 0
LargeSizes = (raised : ℕ) → raised ≤ 2 ^ 30 → IsLargeSize raised (large_size raised)

-- ---- places
-- the test of an address finds exactly the places
abbrev pub TestsPlaces : Type 0
TestsPlaces = (p : Shape) (a : ℕ) → IsShape p → IsPlace p a ↔ ((n : ℕ) × (i : ℕ) × IsPlaceOf p a n i)

-- the slab and the slot of a place are read from its address, so it has no other
abbrev pub ReadsPlaces : Type 0
ReadsPlaces = (p : Shape) (a n i : ℕ) → IsShape p → IsPlaceOf p a n i → (slab_of p a ≡ n) × (slot_of p a ≡ i)

-- m is above n and no guard, and all numbers between are guards
pub record IsNextAfter (p : Shape) (n m : ℕ) : Type 0 where
  pub above : n < m
  pub no_guard : IsGuard p m → ⊥
  pub least : (k : ℕ) → n < k → k < m → IsGuard p k

abbrev pub SkipsGuards : Type 0
SkipsGuards = (p : Shape) (n : ℕ) → 1 ≤ p.guard_interval → IsNextAfter p n (after p n)

-- ---- address space
-- where the address space of a class region ends
abbrev pub region_end : Config → ℕ → ℕ → ℕ
region_end c arena class = region_start c arena class + 2 * c.class_region

-- the slab lies within the address space of its region
pub record LiesWithin (c : Config) (arena : ℕ) (p : Shape) (n : ℕ) : Type 0 where
  pub from_start : region_start c arena p.class.0 ≤ slab_at p n
  pub to_end : slab_at p n + p.slab ≤ region_end c arena p.class.0

abbrev pub SlabsLieWithin : Type 0
SlabsLieWithin = (c : Config) (arena : ℕ) (class : ClassId) (gap n : ℕ) → IsValid c → class.0 < class_count
    → gap ≤ c.class_region
    → n < (shape_of c arena class gap).limit → LiesWithin c arena (shape_of c arena class gap) n

-- the region of this arena and class is another than that one
abbrev pub IsOther : ℕ → ℕ → ℕ → ℕ → Type 0
IsOther arena class other_arena other_class = (arena ≢ other_arena) ⊎ (class ≢ other_class)

-- the address spaces of two class regions share no byte
abbrev pub RegionsApart : Type 0
RegionsApart = (c : Config) (arena class other_arena other_class : ℕ) → class < class_count → other_class < class_count
    → IsOther arena class other_arena other_class
    → (region_end c arena class ≤ region_start c other_arena other_class)
    ⊎ (region_end c other_arena other_class ≤ region_start c arena class)

-- all of them end below the large space
abbrev pub RegionsBelow : Type 0
RegionsBelow = (c : Config) (arena class : ℕ) → IsValid c → arena < c.arenas → class < class_count
    → region_end c arena class ≤ large_start

-- ---- homes
-- the range that a class region reserves is that of its number
abbrev pub ReservesItsSpace : Type 0
ReservesItsSpace = (c : Config) (arena class a : ℕ) → arena < c.arenas → class < class_count
    → region_start c arena class ≤ a → a < region_end c arena class → IsInRegion c (region_of arena class).0 a

-- the home of each address that a class region reserves is that region
abbrev pub HomesOfRegions : Type 0
HomesOfRegions = (c : Config) (region : RegionId) (a : ℕ) → IsValid c → IsInRegion c region.0 a
    → home_of c a ≡ Class region

-- the home of each address of a slab is its region
abbrev pub HomesOfSlabs : Type 0
HomesOfSlabs = (c : Config) (arena : ℕ) (class : ClassId) (gap n a : ℕ) → IsValid c → arena < c.arenas
    → class.0 < class_count → gap ≤ c.class_region → n < (shape_of c arena class gap).limit
    → slab_at (shape_of c arena class gap) n ≤ a
    → a < slab_at (shape_of c arena class gap) n + (shape_of c arena class gap).slab
    → home_of c a ≡ Class (region_of arena class.0)

-- the home of each place is its region
abbrev pub HomesOfPlaces : Type 0
HomesOfPlaces = (c : Config) (arena : ℕ) (class : ClassId) (gap a : ℕ) → IsValid c → arena < c.arenas
    → class.0 < class_count → gap ≤ c.class_region → IsPlace (shape_of c arena class gap) a
    → home_of c a ≡ Class (region_of arena class.0)

-- the home of each byte of the large space is the large region
abbrev pub HomesOfLarge : Type 0
HomesOfLarge = (c : Config) (a : ℕ) → IsValid c → IsInLargeSpace c a → home_of c a ≡ LargeHome

-- two class regions share no address
abbrev pub RegionsShareNone : Type 0
RegionsShareNone = (c : Config) (region other a : ℕ) → IsInRegion c region a → IsInRegion c other a → region ≡ other

-- and none shares one with the large space
abbrev pub LargeSharesNone : Type 0
LargeSharesNone = (c : Config) (region a : ℕ) → IsValid c → IsInRegion c region a → IsInLargeSpace c a → ⊥

-- ---- alignments
-- the slots of a class that was chosen for an alignment are multiples of it, and so are the pages where slabs begin
pub record IsServedBy (align class : ℕ) : Type 0 where
  pub below : class < class_count
  pub pages : align ≤ 4096
  pub multiple : slot_size class % align ≡ 0

abbrev pub ChoosesMultiples : Type 0
ChoosesMultiples = (asked align : ℕ) (class : ClassId) → IsAlignment align → IsAlignedKindOf asked align (Small class)
    → IsServedBy align class.0

-- a place of the class that was chosen for an alignment is a multiple of it
abbrev pub PlacesAligned : Type 0
PlacesAligned = (p : Shape) (asked align a : ℕ) → IsShape p → p.slot ≡ slot_size p.class.0
    → IsAlignment align → IsAlignedKindOf asked align (Small p.class) → IsPlace p a → a % align ≡ 0

-- a page at a multiple of an alignment, as a large block has it
abbrev pub PagesAligned : Type 0
PagesAligned = (align a : ℕ) → IsAlignment align → a % max align 4096 ≡ 0 → a % align ≡ 0
