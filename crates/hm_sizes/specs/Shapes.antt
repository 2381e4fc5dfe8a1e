-- The numbers of a class region, and its places.
use Rattle.std.specs.Prelude.{◌≡◌, ℕ, ◌+◌, ◌-◌, ◌*◌, ◌/◌, ◌%◌, ◌^◌, ◌<◌, ◌≤◌, ◌==◌, nat_lt, min, Bool, true, not, ◌&&◌, if◌then◌else◌, Option, Some, None}
use Rattle.hm_sizes.specs.declared.config.Config.{Config}
use Rattle.hm_sizes.specs.declared.class.ClassId.{ClassId}
use Rattle.hm_sizes.specs.declared.shape.Shape.{Shape}
use Rattle.hm_sizes.specs.Classes.{class_count, slot_size, slot_count, slab_size, quarantine_length}
use Rattle.hm_sizes.specs.Guards as guards

-- where the large space begins, past the spaces of all class regions
abbrev pub large_start : ℕ
large_start = 2 ^ 46

-- where the space of the class region of this number begins
abbrev pub reserved_start : Config → ℕ → ℕ
reserved_start c region = 2 ^ 40 + region * (2 * c.class_region)

-- where the space of the region of this class in this arena begins
abbrev pub region_start : Config → ℕ → ℕ → ℕ
region_start c arena class = reserved_start c (arena * class_count + class)

-- the numbers of a class region
abbrev pub shape_of : Config → ℕ → ClassId → ℕ → Shape
shape_of c arena class gap = record {
  class = class;
  slot = slot_size class.0;
  slots = slot_count class.0;
  slab = slab_size class.0;
  first = region_start c arena class.0 + gap;
  limit = c.class_region / slab_size class.0;
  guard_interval = c.guard_interval;
  array = c.array_base * quarantine_length class.0;
  ring = c.ring_base * quarantine_length class.0;
}

-- the numbers of a class region fit together
pub record IsShape (p : Shape) : Type 0 where
  pub class_below : p.class.0 < class_count
  pub slots_some : 1 ≤ p.slots
  pub slots_most : p.slots ≤ 256
  pub slot_least : 16 ≤ p.slot
  pub slots_fit : p.slots * p.slot ≤ p.slab
  pub slab_pages : p.slab % 4096 ≡ 0
  pub slab_most : p.slab ≤ 131072
  pub first_pages : p.first % 4096 ≡ 0
  pub first_least : 2 ^ 40 ≤ p.first
  pub space : p.first + p.limit * p.slab ≤ large_start
  pub limit_most : p.limit ≤ 2 ^ 23
  pub guards_some : 1 ≤ p.guard_interval
  pub guards_most : p.guard_interval ≤ 8

-- ---- sizes
-- class 0 has neither bytes nor canaries
abbrev pub has_bytes : Shape → Bool
has_bytes p = not (p.class.0 == 0)

abbrev pub usable : Shape → ℕ
usable p = if has_bytes p then p.slot - 8 else 0

abbrev pub class_size_of : Shape → ℕ
class_size_of p = if has_bytes p then p.slot else 0

-- how many later frees stand at least between a free and its release
abbrev pub delay : Shape → ℕ
delay p = p.ring + min p.array 1

-- ---- places
abbrev pub slab_at : Shape → ℕ → ℕ
slab_at p n = p.first + n * p.slab

abbrev pub place : Shape → ℕ → ℕ → ℕ
place p n i = slab_at p n + i * p.slot

-- a guard slab is never used
abbrev pub IsGuard : Shape → ℕ → Type 0
IsGuard p n = n % (p.guard_interval + 1) ≡ p.guard_interval

abbrev pub is_guard : Shape → ℕ → Bool
is_guard p n = guards.is_guard p.guard_interval n

-- the address is that of slot i of slab n, which is no guard
pub record IsPlaceOf (p : Shape) (a n i : ℕ) : Type 0 where
  pub below : n < p.limit
  pub no_guard : IsGuard p n → ⊥
  pub slot : i < p.slots
  pub is : a ≡ place p n i

-- the slab and the slot in which an address lies
abbrev pub slab_of : Shape → ℕ → ℕ
slab_of p a = (a - p.first) / p.slab

abbrev pub slot_of : Shape → ℕ → ℕ
slot_of p a = ((a - p.first) % p.slab) / p.slot

abbrev pub is_slot : Shape → ℕ → ℕ → ℕ → Bool
is_slot p a n i = nat_lt n p.limit && (not (is_guard p n) && (nat_lt i p.slots && (place p n i == a)))

-- the address is a place, as a test
abbrev pub IsPlace : Shape → ℕ → Type 0
IsPlace p a = is_slot p a (slab_of p a) (slot_of p a) ≡ true

-- the least number above n that is no guard
abbrev pub after : Shape → ℕ → ℕ
after p n = guards.after p.guard_interval n

-- the slab and the slot of an address: None exactly where it is no place
abbrev pub PlaceGives : Shape → ℕ → Option (ℕ × ℕ) → Type 0
PlaceGives p a None = (n i : ℕ) → IsPlaceOf p a n i → ⊥
PlaceGives p a (Some found) = IsPlaceOf p a found.0 found.1
