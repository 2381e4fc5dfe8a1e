-- How the slots of slabs are used.
use Rattle.std.specs.Prelude.{ℕ, ◌+◌, replicate, Bool, true, false, not, ◌&&◌, if◌then◌else◌, List, [], ◌∷◌, ◌++◌, length, Option, Some, None, slice_get, slice_set, option_map, sum_by, count_by}
use Rattle.std.specs.List.{list_any}
use Rattle.std.specs.Option.{option_and_then, option_map_or}
use Rattle.hm_sizes.specs.declared.shape.Shape.{Shape}
use Rattle.hm_class_rules.specs.Kinds.{Kind, Partial, Empty, Neither}
use Rattle.hm_sizes.specs.Guards.{is_guard}
use Rattle.hm_slab_meta.specs.Uses.{SlotUse, Never, Free, Live, Quarantined, Condemned, was_given, is_available, first_from}

-- ---- one slot
abbrev pub lives : SlotUse → Bool
lives Never = false
lives Free = false
lives Live = true
lives Quarantined = false
lives (Condemned given) = false

abbrev pub is_condemned : SlotUse → Bool
is_condemned Never = false
is_condemned Free = false
is_condemned Live = false
is_condemned Quarantined = false
is_condemned (Condemned given) = true

abbrev pub is_quarantined : SlotUse → Bool
is_quarantined Never = false
is_quarantined Free = false
is_quarantined Live = false
is_quarantined Quarantined = true
is_quarantined (Condemned given) = false

-- it is live, quarantined or condemned
abbrev pub occupied : SlotUse → Bool
occupied u = not (is_available u)

-- ---- one slab
-- how its slots are used, its canary, and whether it is open; the canary of one that is not is 0
pub record SlabUse : Type 0 where
  pub slots : List SlotUse
  pub canary : ℕ
  pub opened : Bool

-- a slab whose slots were never given
abbrev pub fresh_slab : ℕ → SlabUse
fresh_slab slots = record { slots = replicate slots Never; canary = 0; opened = false }

abbrev pub opened_slab : ℕ → SlabUse → SlabUse
opened_slab canary b = record { slots = b.slots; canary = canary; opened = true }

abbrev pub shut_slab : SlabUse → SlabUse
shut_slab b = record { slots = b.slots; canary = 0; opened = false }

abbrev pub has_occupied : List SlotUse → Bool
has_occupied slots = list_any occupied slots

abbrev pub has_available : List SlotUse → Bool
has_available slots = list_any is_available slots

-- some slots are occupied and some are not
abbrev pub is_partly : SlabUse → Bool
is_partly b = has_occupied b.slots && has_available b.slots

-- there are slots, and none is occupied
abbrev pub is_unused : SlabUse → Bool
is_unused b = not (has_occupied b.slots) && has_available b.slots

-- what a slab is
abbrev pub kind_of : SlabUse → Kind
kind_of b = if not b.opened then Neither else if is_partly b then Partial else if is_unused b then Empty else Neither

-- ---- all slabs, by number: a guard is None
abbrev pub Uses : Type 0
Uses = List (Option SlabUse)

-- how many slots of a slab pass a test
abbrev pub count_in : (SlotUse → Bool) → Option SlabUse → ℕ
count_in test slab = option_map_or (λ (b : SlabUse). count_by test b.slots) slab 0

-- how many slots are live
abbrev pub live_count : Uses → ℕ
live_count uses = sum_by (count_in lives) uses

-- slab n: none where it is a guard or was never opened
abbrev pub slab_in : Uses → ℕ → Option SlabUse
slab_in uses n = option_and_then (λ slab. slab) (slice_get uses n)

-- whether slab n is open, and what it is
abbrev pub open_at : Uses → ℕ → Bool
open_at uses n = option_map_or (λ (b : SlabUse). b.opened) (slab_in uses n) false

abbrev pub kind_at : Uses → ℕ → Kind
kind_at uses n = option_map_or kind_of (slab_in uses n) Neither

-- how slot i of slab n is used
abbrev pub use_at : Uses → ℕ → ℕ → Option SlotUse
use_at uses n i = option_and_then (λ (b : SlabUse). slice_get b.slots i) (slab_in uses n)

-- the first available slot of slab n from slot i on, and else from the first on
abbrev pub first_at : Uses → ℕ → ℕ → Option ℕ
first_at uses n i = option_and_then (λ (b : SlabUse). first_from i b.slots) (slab_in uses n)

-- whether slot i of slab n is there and passes a test
abbrev pub passes_at : (SlotUse → Bool) → Uses → ℕ → ℕ → Bool
passes_at test uses n i = option_map_or test (use_at uses n i) false

-- the canary of slab n, 0 where it is not open
abbrev pub canary_at : Uses → ℕ → ℕ
canary_at uses n = option_map_or (λ (b : SlabUse). b.canary) (slab_in uses n) 0

-- ---- changes
-- slab n is changed
abbrev pub changed : Uses → ℕ → (SlabUse → SlabUse) → Uses
changed uses n f = slice_set uses n (option_map f (slab_in uses n))

abbrev pub with_slot : ℕ → SlotUse → SlabUse → SlabUse
with_slot i u b = record { slots = slice_set b.slots i u; canary = b.canary; opened = b.opened }

-- slot i of slab n is used so
abbrev pub with_use : Uses → ℕ → ℕ → SlotUse → Uses
with_use uses n i u = changed uses n (with_slot i u)

-- it is never given again
abbrev pub with_condemned : Uses → ℕ → ℕ → Uses
with_condemned uses n i = with_use uses n i (Condemned (passes_at was_given uses n i))

-- slab n is opened, or shut
abbrev pub with_open : Uses → ℕ → ℕ → Uses
with_open uses n canary = changed uses n (opened_slab canary)

-- its canary is set
abbrev pub with_canary : ℕ → SlabUse → SlabUse
with_canary canary b = record { slots = b.slots; canary = canary; opened = b.opened }

abbrev pub with_canary_at : Uses → ℕ → ℕ → Uses
with_canary_at uses n canary = changed uses n (with_canary canary)

abbrev pub with_shut : Uses → ℕ → Uses
with_shut uses n = changed uses n shut_slab

-- ---- the numbers of slabs
-- slabs have numbers below the limit; so many slabs stand between two guards; so many slots are in a slab
pub record Numbers : Type 0 where
  pub limit : ℕ
  pub guard_interval : ℕ
  pub slots : ℕ

abbrev pub numbers_of : Shape → Numbers
numbers_of p = record { limit = p.limit; guard_interval = p.guard_interval; slots = p.slots }

-- a slab is put at the next number; what follows it is made a guard where it is one
abbrev pub with_slab : ℕ → Uses → SlabUse → Uses
with_slab interval uses slab =
    (uses ++ Some slab ∷ []) ++ (if is_guard interval (length uses + 1) then None ∷ [] else [])

-- what is opened comes from those that are shut: the first of them; where there is none, a fresh slab is put at the
-- next number
abbrev pub taken_uses : Numbers → List ℕ → Uses → Uses
taken_uses q [] uses = with_slab q.guard_interval uses (fresh_slab q.slots)
taken_uses q (m ∷ ms) uses = uses
