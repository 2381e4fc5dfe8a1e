-- The plan of each call of a heap: its refusals in their order, its parts, and its answer.
use Rattle.std.specs.Prelude.{◌≡◌, ◌+◌, ◌-◌, ◌*◌, ◌%◌, ◌^◌, ◌<◌, ◌≤◌, ◌==◌, nat_lt, min, ◌&&◌, ℕ, Bool, false, if◌then◌else◌, List, length, Option, Some, None}
use Rattle.hm_model.specs.declared.answer.Answer.{Answer}
use Rattle.hm_model.specs.declared.answer.Answer.TheVariants as answer
use Rattle.hm_model.specs.declared.entry.Call.{Call}
use Rattle.hm_model.specs.declared.entry.Call.TheVariants.{Allot, GiveBack, Measure, Fetch, Fill}
use Rattle.hm_model.specs.declared.entry.Reply.{Reply}
use Rattle.hm_model.specs.declared.entry.Reply.TheVariants.{Given, Freed, Usable, Bytes, Filled}
use Rattle.hm_sizes.specs.declared.class.Kind.{Kind}
use Rattle.hm_sizes.specs.declared.class.Kind.TheVariants.{Small, Large, TooLarge}
use Rattle.hm_sizes.specs.declared.config.Config.{Config}
use Rattle.hm_sizes.specs.declared.home.Home.{Home}
use Rattle.hm_sizes.specs.declared.home.Home.TheVariants.{Class, Large as LargeHome, Outside}
use Rattle.hm_sizes.specs.Aligned.{AlignedGives}
use Rattle.hm_sizes.specs.Classes.{class_count}
use Rattle.hm_sizes.specs.Homes.{region_count, home_of}
use Rattle.hm_sizes.specs.Sizes.{IsKindOf}
use Rattle.hm_heap.specs.declared.realloc.Move.{Move}
use Rattle.hm_heap.specs.declared.realloc.Source.{Source}
use Rattle.hm_heap.specs.Plans.{Plan, Done, Part}
use Rattle.hm_heap.specs.Passes.{HeapView, region_at}
use Rattle.hm_heap.specs.Requests.{Asks, IsInReach}

-- ---- where the parts are made
-- thread T asks for its small blocks in arena (T - 1) mod arenas
abbrev pub class_index : Config → ℕ → ℕ → ℕ
class_index c thread class = (thread - 1) % c.arenas * class_count + class

abbrev pub large_index : Config → ℕ
large_index c = region_count c

-- where a block of this kind is asked for; one that is too large is asked for nowhere
abbrev pub index_for : Config → ℕ → Kind → Option ℕ
index_for c thread (Small class) = Some (class_index c thread class.0)
index_for c thread (Large size) = Some (large_index c)
index_for c thread TooLarge = None

-- where the region of an address stands
abbrev pub index_of_home : Config → Home → Option ℕ
index_of_home c (Class region) = Some region.0
index_of_home c LargeHome = Some (large_index c)
index_of_home c Outside = None

abbrev pub home_index : Config → ℕ → Option ℕ
home_index c a = index_of_home c (home_of c a)

-- ---- calls of one part
abbrev pub replied : Reply → Plan
replied reply = Done (answer.Reply reply)

-- one part in the region of an address
abbrev pub at_home : Option ℕ → Call → Plan
at_home None call = Done answer.Outside
at_home (Some index) call = Part index call replied

-- a request that goes to a block of this kind; a class region asks for no alignment
abbrev pub allot_plan : Config → ℕ → ℕ → ℕ → Kind → Plan
allot_plan c thread asked align TooLarge = Done answer.TooLarge
allot_plan c thread asked align (Small class) = Part (class_index c thread class.0) (Allot asked 1) replied
allot_plan c thread asked align (Large size) = Part (large_index c) (Allot asked align) replied

pub record IsMallocPlan (c : Config) (thread asked : ℕ) (plan : Plan) : Type 0 where
  pub kind : Kind
  pub kind_is : IsKindOf asked kind
  pub is : plan ≡ allot_plan c thread asked 1 kind

-- of count times size, where the product is below 2 ^ 64
pub record IsCallocPlan (c : Config) (thread count size : ℕ) (plan : Plan) : Type 0 where
  pub overflow : 2 ^ 64 ≤ count * size → plan ≡ Done answer.Overflow
  pub fits : count * size < 2 ^ 64 → IsMallocPlan c thread (count * size) plan

abbrev pub aligned_plan : Config → ℕ → ℕ → ℕ → Option Kind → Plan
aligned_plan c thread asked align None = Done answer.BadAlignment
aligned_plan c thread asked align (Some kind) = allot_plan c thread asked align kind

pub record IsAlignedPlan (c : Config) (thread align asked : ℕ) (plan : Plan) : Type 0 where
  pub kind : Option Kind
  pub kind_is : AlignedGives asked align kind
  pub is : plan ≡ aligned_plan c thread asked align kind

-- a free, with a stated size or none
abbrev pub free_plan : Config → ℕ → Option ℕ → Plan
free_plan c a stated = if a == 0 then Done answer.Nothing else at_home (home_index c a) (GiveBack a stated)

abbrev pub usable_plan : Config → ℕ → Plan
usable_plan c a = if a == 0 then Done (answer.Reply (Usable 0)) else at_home (home_index c a) (Measure a)

abbrev pub read_plan : Config → ℕ → ℕ → Plan
read_plan c a len = at_home (home_index c a) (Fetch a len)

abbrev pub write_plan : Config → ℕ → List (ℕ × ℕ) → Plan
write_plan c a runs = at_home (home_index c a) (Fill a runs)

-- ---- moving a block
-- a block at an address in reach, whose region and that of a new block stand in the heap, and the latter may be asked
pub record IsSource (h : HeapView) (source : Source) : Type 0 where
  pub home : source.home < length h.locks
  pub index : source.index < length h.locks
  pub reach : IsInReach source.addr
  pub few : source.asked ≤ 2 ^ 30
  pub asks : Asks (region_at h.config source.index) (Allot source.asked 1)

pub record IsMove (h : HeapView) (moved : Move) : Type 0 where
  pub source : IsSource h moved.source
  pub new : IsInReach moved.new

-- each step takes what the one before replied
module _ (moved : Move) where
  -- the old block was given back, or not
  abbrev pub freed : Reply → Plan
  freed Freed = Done (answer.Reply (Given moved.new moved.usable))
  freed reply = Done (answer.HalfMoved moved.new moved.usable reply)

  abbrev pub freeing : Plan
  freeing = Part moved.source.home (GiveBack moved.source.addr None) freed

  -- the new block was filled, or not
  abbrev pub filled : Reply → Plan
  filled Filled = freeing
  filled reply = Done (answer.HalfMoved moved.new moved.usable reply)

  -- the old block's bytes were fetched, or not
  abbrev pub fetched : Reply → Plan
  fetched (Bytes runs) = Part moved.source.index (Fill moved.new runs) filled
  fetched reply = Done (answer.HalfMoved moved.new moved.usable reply)

  -- so many bytes are copied
  abbrev pub copying : ℕ → Plan
  copying count = if count == 0 then freeing else Part moved.source.home (Fetch moved.source.addr count) fetched

module _ (source : Source) where
  -- the new block was given, or not
  abbrev pub allotted : ℕ → Reply → Plan
  allotted count (Given new usable) = copying (record { source = source; new = new; usable = usable }) count
  allotted count reply = Done (answer.Reply reply)

  -- the old block was measured, or not: it stays where it serves, and else the lesser of its usable size and the new
  -- asked size is copied
  abbrev pub measured : (ℕ → Bool) → Reply → Plan
  measured keeps (Usable old) =
      if keeps old then Done (answer.Kept source.addr old)
      else Part source.index (Allot source.asked 1) (allotted (min old source.asked))
  measured keeps reply = Done (answer.Reply reply)

-- a block at home with so many usable bytes serves the new kind as it is: the class, or the large size, is the same
abbrev pub keeps : Config → ℕ → Kind → ℕ → Bool
keeps c home (Small class) old = nat_lt home (region_count c) && ((home % class_count) == class.0)
keeps c home (Large size) old = (home == large_index c) && (size == old)
keeps c home TooLarge old = false

abbrev pub moving_plan : Config → ℕ → ℕ → ℕ → Kind → Option ℕ → Plan
moving_plan c index a asked kind None = Done answer.Outside
moving_plan c index a asked kind (Some home) =
    Part home (Measure a)
    (measured (record { home = home; index = index; addr = a; asked = asked }) (keeps c home kind))

abbrev pub resize_plan : Config → ℕ → ℕ → ℕ → Kind → Option ℕ → Plan
resize_plan c thread a asked kind None = Done answer.TooLarge
resize_plan c thread a asked kind (Some index) =
    if a == 0 then allot_plan c thread asked 1 kind else moving_plan c index a asked kind (home_index c a)

pub record IsReallocPlan (c : Config) (thread a asked : ℕ) (plan : Plan) : Type 0 where
  pub kind : Kind
  pub kind_is : IsKindOf asked kind
  pub is : plan ≡ resize_plan c thread a asked kind (index_for c thread kind)

-- ---- how the block of an answer begins
-- a block that is given begins at a multiple of the alignment
abbrev pub StartsAligned : ℕ → Answer → Type 0
StartsAligned align given = (a usable : ℕ) → given ≡ answer.Reply (Given a usable) → a % align ≡ 0
