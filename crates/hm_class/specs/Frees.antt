-- What taking a block back changes: the slot that is quarantined, and the one that is released.
use Rattle.std.specs.Prelude.{◌≡◌, ℕ, ◌+◌, ◌*◌, ◌<◌, ◌≤◌, ◌==◌, ◌&&◌, nat_lt, Bool, true, false, IsTrue, if◌then◌else◌, length, slice_index_or, Option, Some, None}
use Rattle.std.specs.FinMap as map
use Rattle.hm_choice.specs.Stream.{Words, next_word, after_word, drawn}
use Rattle.hm_outside.specs.declared.pages.Pages as pages
use Rattle.hm_quarantine.specs.Quarantine.{let_go, kept_with}
use Rattle.hm_base.specs.Lists.{zeros}
use Rattle.hm_outside.specs.PageRuns.{PageRuns, IsHeld, IsPageRun, Writes}
use Rattle.hm_sizes.specs.declared.shape.Shape.{Shape}
use Rattle.hm_sizes.specs.Shapes.{slab_at, slab_of, slot_of, has_bytes, usable}
use Rattle.hm_class_rules.specs.Rules.{empty_bytes}
use Rattle.hm_class_rules.specs.Kinds.{Empty, same_kind}
use Rattle.hm_slab_lists.specs.Lists.{placed}
use Rattle.hm_class.specs.declared.identity.Identity.{Identity}
use Rattle.hm_class.specs.declared.event.Emptied.{Emptied}
use Rattle.hm_class.specs.declared.event.Emptied.TheVariants.{Kept, Retired, Purged}
use Rattle.hm_slab_meta.specs.Uses.{Free, Quarantined, Live}
use Rattle.hm_class.specs.declared.slabs.Slot.{Slot}
use Rattle.hm_class.specs.declared.store.Store.{Store}
use Rattle.hm_class.specs.SlotBytes.{KeepsPages}
use Rattle.hm_class.specs.Slabs.{Slabs, SameLists, Parks, list_of}
use Rattle.hm_class.specs.Uses.{Uses, use_at, open_at, kind_at, with_use}

-- ---- the array
-- the word that names an index of the array, where there is one; the index; and the stream after it
abbrev pub array_word : Shape → ℕ → Option ℕ
array_word p word = if p.array == 0 then None else Some word

abbrev pub index_of_word : Shape → ℕ → ℕ
index_of_word p word = if p.array == 0 then 0 else drawn p.array word

abbrev pub array_stream : Shape → Words → Words
array_stream p stream = if p.array == 0 then stream else after_word stream

-- ---- emptying
-- slab n is empty, and with so many others the empty slabs come to more than they may
abbrev pub is_surplus : Shape → Uses → ℕ → ℕ → Bool
is_surplus p uses others n = same_kind (kind_at uses n) Empty && nat_lt empty_bytes ((others + 1) * p.slab)

-- slab n went to the list of its kind
pub record Joins (n : ℕ) (uses : Uses) (old new : Slabs) : Type 0 where
  pub slabs : new.slabs ≡ uses
  pub lists : new.lists ≡ placed (list_of (kind_at uses n)) n old.lists
  pub numbers : new.numbers ≡ old.numbers

-- the runs once the pages of slab n went, where it has any
abbrev pub dropped_page_runs : Shape → ℕ → PageRuns → PageRuns
dropped_page_runs p n runs = if has_bytes p then map.remove runs (slab_at p n) else runs

-- the slot at b is free
abbrev pub freed_uses : Shape → ℕ → Uses → Uses
freed_uses p b uses = with_use uses (slab_of p b) (slot_of p b) Free

-- ---- holding
-- slot s can go into quarantine
pub record CanQuarantine (p : Shape) (store : Store) (s : Slot) : Type 0 where
  pub array : length store.quarantine.array ≡ p.array
  pub live : use_at store.slabs.slabs s.slab s.index ≡ Some Live

module _ {P : Type 0} (meaning : pages.Ghosts P) where
  -- the usable bytes of the slot at a were made zero
  pub record Clears (p : Shape) (before now : P) (a : ℕ) : Type 0 where
    pub pages : KeepsPages meaning before now
    pub none : has_bytes p ≡ false → IsTrue (meaning.told before) → meaning.runs now ≡ meaning.runs before
    pub some : has_bytes p ≡ true → IsTrue (meaning.told before) → IsHeld (meaning.runs before) a (usable p)
        → Writes (meaning.runs before) a (usable p) (zeros (usable p)) (meaning.runs now)

  -- slab n can be retired
  pub record CanRetire (region : Identity) (k : Slabs) (pages : P) (n : ℕ) : Type 0 where
    pub below : n < region.shape.limit
    pub on : open_at k.slabs n ≡ true
    pub page_run : has_bytes region.shape ≡ true → IsTrue (meaning.told pages)
        → IsPageRun (meaning.runs pages) (slab_at region.shape n) region.shape.slab
    pub parking : length k.parking ≡ region.config.park_length

  -- the slot at a can be released
  pub record CanRelease (region : Identity) (k : Slabs) (pages : P) (a : ℕ) : Type 0 where
    pub from : region.shape.first ≤ a
    pub quarantined : use_at k.slabs (slab_of region.shape a) (slot_of region.shape a) ≡ Some Quarantined
    pub slab : CanRetire region k pages (slab_of region.shape a)

  -- the pages of slab n went, where it has any; or their bytes were made zero
  abbrev pub Drops : Shape → ℕ → P → P → Bool → Type 0
  Drops p n before now true =
      (IsTrue (meaning.told before) → meaning.runs now ≡ dropped_page_runs p n (meaning.runs before))
      × (meaning.faults before ≤ meaning.faults now) × (meaning.told now ≡ meaning.told before)
      × (meaning.owner now ≡ meaning.owner before)
  Drops p n before now false =
      (has_bytes p ≡ true)
      × (IsTrue (meaning.told before)
      → meaning.runs now ≡ map.insert (meaning.runs before) (slab_at p n) (zeros p.slab))
      × (meaning.faults before < meaning.faults now) × (meaning.told now ≡ meaning.told before)
      × (meaning.owner now ≡ meaning.owner before)

-- ---- what was and what is: the store and the pages, each before and after
module _ {P : Type 0} (meaning : pages.Ghosts P) (old new : Store) (before now : P) where
  -- the slot s at a goes into quarantine: what leaves that, and the word that names an index of its array
  pub record Quarantines (p : Shape) (a : ℕ) (s : Slot) (result : Option ℕ × Option ℕ) : Type 0 where
    pub cleared : Clears meaning p before now a
    pub slabs : new.slabs.slabs ≡ with_use old.slabs.slabs s.slab s.index Quarantined
    pub lists : SameLists old.slabs new.slabs
    pub released : result.0 ≡ let_go old.quarantine a (index_of_word p (next_word old.stream))
    pub word : result.1 ≡ array_word p (next_word old.stream)
    pub quarantine_is : new.quarantine ≡ kept_with old.quarantine a (index_of_word p (next_word old.stream))
    pub stream_is : new.stream ≡ array_stream p old.stream

  -- the pages, the stream, the quarantine and the parking array are as before
  pub record KeepsParking : Type 0 where
    pub told_same : meaning.told now ≡ meaning.told before
    pub owner_same : meaning.owner now ≡ meaning.owner before
    pub page_runs_same : IsTrue (meaning.told before) → meaning.runs now ≡ meaning.runs before
    pub count_same : meaning.faults now ≡ meaning.faults before
    pub stream_is : new.stream ≡ old.stream
    pub quarantine_same : new.quarantine ≡ old.quarantine
    pub parking_is : new.slabs.parking ≡ old.slabs.parking

  -- slab n joins the slabs of its kind
  pub record JoinsSlab (n : ℕ) : Type 0 where
    pub joins : Joins n old.slabs.slabs old.slabs new.slabs
    pub keeps : KeepsParking

  module _ (p : Shape) (n : ℕ) where
    -- slab n was retired
    pub record RetiresSlab (slab word : ℕ) (unparked : Option ℕ) : Type 0 where
      pub slab_is : slab ≡ n
      pub parks : Parks n (drawn (length old.slabs.parking) word) old.slabs new.slabs
      pub dropped : Drops meaning p n before now true
      pub word_is : word ≡ next_word old.stream
      pub stream_is : new.stream ≡ after_word old.stream
      pub quarantine_same : new.quarantine ≡ old.quarantine
      pub unparked_is : unparked ≡ slice_index_or old.slabs.parking (drawn (length old.slabs.parking) word) None

    -- it was purged, and joins the empty ones
    pub record PurgesSlab (slab : ℕ) : Type 0 where
      pub slab_is : slab ≡ n
      pub joins : Joins n old.slabs.slabs old.slabs new.slabs
      pub dropped : Drops meaning p n before now false
      pub stream_is : new.stream ≡ old.stream
      pub quarantine_same : new.quarantine ≡ old.quarantine
      pub parking_is : new.slabs.parking ≡ old.slabs.parking

    abbrev pub Retires : Emptied → Type 0
    Retires Kept = ⊥
    Retires (Retired slab word unparked) = RetiresSlab slab word unparked
    Retires (Purged slab) = PurgesSlab slab

    -- slab n, of which a slot was released, is retired or purged where it is one too many, and else joins
    abbrev pub Empties : Emptied → Type 0
    Empties Kept = (is_surplus p old.slabs.slabs (length old.slabs.lists.empty) n ≡ false) × JoinsSlab n
    Empties (Retired slab word unparked) = (is_surplus p old.slabs.slabs (length old.slabs.lists.empty) n ≡ true)
        × RetiresSlab slab word unparked
    Empties (Purged slab) = (is_surplus p old.slabs.slabs (length old.slabs.lists.empty) n ≡ true) × PurgesSlab slab

module _ {P : Type 0} (meaning : pages.Ghosts P) (old new : Store) (before now : P) (p : Shape) where
  -- slot b was released: `mid` are the slabs after that
  pub record Releases (b : ℕ) (e : Emptied) : Type 0 where
    pub mid : Slabs
    pub slabs : mid.slabs ≡ freed_uses p b old.slabs.slabs
    pub lists : SameLists old.slabs mid
    pub empties : Empties meaning (record old { slabs = mid }) new before now p (slab_of p b) e

  -- what left the quarantine, if anything did, is released
  abbrev pub Settles : Option ℕ → Emptied → Type 0
  Settles None e = (e ≡ Kept) × (new.slabs.slabs ≡ old.slabs.slabs) × SameLists old.slabs new.slabs
      × KeepsParking meaning old new before now
  Settles (Some b) e = Releases b e
