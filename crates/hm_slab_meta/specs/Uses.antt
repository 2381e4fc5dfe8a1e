-- How the slots of a slab are used.
use Rattle.std.specs.Prelude.{◌≡◌, ℕ, ◌+◌, ◌<◌, ◌≤◌, Bool, true, false, List, length, Option, Some, None, take, drop, replicate, slice_index_or, slice_set}
use Rattle.std.specs.List.{position}
use Rattle.hm_slab_meta.specs.declared.slab_meta.SlotState.{SlotState}
use Rattle.hm_slab_meta.specs.declared.slab_meta.SlotState.TheVariants as state

-- how a slot is used; a condemned one may have been given before, or never
pub data SlotUse : Type 0 where
  Never : SlotUse
  Free : SlotUse
  Live : SlotUse
  Quarantined : SlotUse
  Condemned : Bool → SlotUse

-- how each slot is used, and the canary
pub record SlabUse : Type 0 where
  pub slots : List SlotUse
  pub canary : ℕ

-- ---- one slot
abbrev pub state_of : SlotUse → SlotState
state_of Never = state.Never
state_of Free = state.Free
state_of Live = state.Live
state_of Quarantined = state.Quarantined
state_of (Condemned given) = state.Condemned

abbrev pub was_given : SlotUse → Bool
was_given Never = false
was_given Free = true
was_given Live = true
was_given Quarantined = true
was_given (Condemned given) = given

-- it is neither live nor quarantined nor condemned
abbrev pub is_available : SlotUse → Bool
is_available Never = true
is_available Free = true
is_available Live = false
is_available Quarantined = false
is_available (Condemned given) = false

-- ---- one slab
abbrev pub fresh_slab : ℕ → SlabUse
fresh_slab slots = record { slots = replicate slots Never; canary = 0 }

abbrev pub with_canary : SlabUse → ℕ → SlabUse
with_canary slab canary = record { slots = slab.slots; canary = canary }

-- one slot is used otherwise
abbrev pub with_use : SlabUse → ℕ → SlotUse → SlabUse
with_use slab slot use_ = record { slots = slice_set slab.slots slot use_; canary = slab.canary }

-- how a slot is used; past the last one, Never
abbrev pub use_at : SlabUse → ℕ → SlotUse
use_at slab slot = slice_index_or slab.slots slot Never

-- the slot condemned
abbrev pub condemned_in : SlabUse → ℕ → SlotUse
condemned_in slab slot = Condemned (was_given (use_at slab slot))

-- these slots are not available
abbrev pub AreTaken : List SlotUse → ℕ → ℕ → Type 0
AreTaken slots from to = (i : ℕ) → from ≤ i → i < to → is_available (slice_index_or slots i Never) ≡ false

-- the slot is available, and none before it from `from` on is
pub record IsFirstFree (slots : List SlotUse) (from slot : ℕ) : Type 0 where
  pub at_least : from ≤ slot
  pub below : slot < length slots
  pub free : is_available (slice_index_or slots slot Never) ≡ true
  pub before : AreTaken slots from slot

-- the first available slot from slot i on, and else from the first on
abbrev pub or_else : ℕ → Option ℕ → Option ℕ → Option ℕ
or_else i (Some j) other = Some (i + j)
or_else i None other = other

abbrev pub first_from : ℕ → List SlotUse → Option ℕ
first_from i slots = or_else i (position is_available (drop i slots)) (position is_available (take i slots))
