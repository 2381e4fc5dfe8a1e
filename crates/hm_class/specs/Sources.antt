-- Where a block comes from, and what is said of one that is given back.
use Rattle.std.specs.Prelude.{◌≡◌, ℕ, true, false, Option, Some, None, is_some, Result, Ok, Err, length, option_map, IfSome, ◌<◌}
use Rattle.hm_model.specs.declared.entry.Reply.{Reply}
use Rattle.hm_model.specs.declared.entry.Reply.TheVariants as reply
use Rattle.hm_sizes.specs.declared.shape.Shape.{Shape}
use Rattle.hm_sizes.specs.Shapes.{IsPlaceOf}
use Rattle.hm_class_rules.specs.State.{unopened_below}
use Rattle.hm_class_rules.specs.Stepped.{front}
use Rattle.hm_slab_lists.specs.declared.slab_lists.Place.{Place}
use Rattle.hm_slab_lists.specs.declared.slab_lists.Place.TheVariants.{Partial, Empty, Retired, Fresh, Exhausted}
use Rattle.hm_slab_meta.specs.Uses.{Live, was_given}
use Rattle.hm_class.specs.Slabs.{Slabs, taken_of, HasRoom}
use Rattle.hm_class.specs.declared.slabs.Slot.{Slot}
use Rattle.hm_class.specs.Uses.{Uses, SlabUse, slab_in, occupied, lives, use_at, passes_at}

-- an available slot
abbrev pub IsAvailable : Uses → Slot → Type 0
IsAvailable uses s = option_map occupied (use_at uses s.slab s.index) ≡ Some false

-- each slab has all its slots
abbrev pub AreWhole : Shape → Uses → Type 0
AreWhole p uses = (n : ℕ) (b : SlabUse) → slab_in uses n ≡ Some b → length b.slots ≡ p.slots

-- slab n, where it was ever opened, has a slot i
abbrev pub IsWithin : Uses → ℕ → ℕ → Type 0
IsWithin uses n i = IfSome (slab_in uses n) (λ (b : SlabUse). i < length b.slots)

-- the open slab from which the next slot is picked
abbrev pub front_of : Slabs → Option ℕ
front_of k = front k.lists.partial k.lists.empty

-- the slab that is opened where there is none
abbrev pub new_of : Slabs → Option ℕ
new_of k = unopened_below k.numbers.limit k.lists.retired (length k.slabs)

-- slab n is opened next: no open slab serves
abbrev pub OpensNext : Slabs → ℕ → Type 0
OpensNext k n = (front_of k ≡ None) × (new_of k ≡ Some n)

-- it can be opened: it is there, and there is room for it
pub record CanTake (k : Slabs) (n : ℕ) : Type 0 where
  pub next : OpensNext k n
  pub there : is_some (slab_in (taken_of k) n) ≡ true
  pub room : HasRoom k

-- where the next block comes from
abbrev pub Sources : Slabs → Place → Type 0
Sources k (Partial n) = front_of k ≡ Some n
Sources k (Empty n) = front_of k ≡ Some n
Sources k (Retired n) = OpensNext k n
Sources k (Fresh n) = OpensNext k n
Sources k Exhausted = (front_of k ≡ None) × (new_of k ≡ None)

-- slot s starts at the address, and is live
abbrev pub IsLiveAt : Shape → Uses → ℕ → Slot → Type 0
IsLiveAt p uses a s = IsPlaceOf p a s.slab s.index × (use_at uses s.slab s.index ≡ Some Live)

-- why the address starts no live block
abbrev pub Refuses : Shape → Uses → ℕ → Reply → Type 0
Refuses p uses a reply.NoSlot = (n i : ℕ) → IsPlaceOf p a n i → ⊥
Refuses p uses a reply.Unused = (n : ℕ) × (i : ℕ) × IsPlaceOf p a n i × (passes_at was_given uses n i ≡ false)
Refuses p uses a reply.DoubleFree = (n : ℕ) × (i : ℕ) × IsPlaceOf p a n i × (passes_at was_given uses n i ≡ true)
    × (passes_at lives uses n i ≡ false)
Refuses p uses a other = ⊥

abbrev pub Judges : Shape → Uses → ℕ → Result Slot Reply → Type 0
Judges p uses a (Ok s) = IsLiveAt p uses a s
Judges p uses a (Err r) = Refuses p uses a r
