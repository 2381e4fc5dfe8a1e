-- What finding a slab for the next block changes, and what picking and giving a slot of it does.
use Rattle.std.specs.Prelude.{◌≡◌, ℕ, ◌<◌, ◌≤◌, ◌^◌, true, false, IsTrue, if◌then◌else◌, Option, Some, None, is_some, length, option_map, unwrap_or, IfSome, ⊤}
use Rattle.std.specs.FinMap as map
use Rattle.hm_choice.specs.Stream.{Words, next_word, after_word, canary_of, drawn}
use Rattle.hm_outside.specs.declared.pages.Pages as pages
use Rattle.hm_base.specs.Lists.{zeros}
use Rattle.hm_outside.specs.PageRuns.{PageRuns, MeetsNone}
use Rattle.hm_sizes.specs.declared.config.Config.{Config}
use Rattle.hm_sizes.specs.declared.shape.Shape.{Shape}
use Rattle.hm_sizes.specs.Shapes.{slab_at, has_bytes}
use Rattle.hm_slab_lists.specs.Lists.{placed}
use Rattle.hm_class.specs.declared.identity.Identity.{Identity}
use Rattle.hm_class.specs.declared.next_slab.NextSlab.{NextSlab}
use Rattle.hm_class.specs.declared.next_slab.NextSlab.TheVariants as next
use Rattle.hm_class.specs.declared.event.Canary.{Canary}
use Rattle.hm_class.specs.declared.event.Event.{Event}
use Rattle.hm_model.specs.declared.entry.Reply.{Reply}
use Rattle.hm_model.specs.declared.entry.Reply.TheVariants as reply
use Rattle.hm_class.specs.declared.store.Store.{Store}
use Rattle.hm_class.specs.Slabs.{Slabs, SameLists, taken_of, list_of, OpensSlab}
use Rattle.hm_class.specs.declared.slabs.Slot.{Slot}
use Rattle.hm_slab_lists.specs.declared.slab_lists.Place.TheVariants.{Exhausted}
use Rattle.hm_model.specs.Calls.{no_choices}
use Rattle.hm_class.specs.Gives.{Gives}
use Rattle.hm_class.specs.Events.{plain, canary_value, chose_opened, start_draws}
use Rattle.hm_class.specs.Sources.{Sources, OpensNext, front_of}
use Rattle.hm_class.specs.Uses.{Uses, SlabUse, slab_in, open_at, use_at, occupied, kind_at, first_at, live_count}

-- ---- opening
-- the runs once slab n was made accessible
abbrev pub made_page_runs : Shape → ℕ → PageRuns → PageRuns
made_page_runs p n runs = if has_bytes p then map.insert runs (slab_at p n) (zeros p.slab) else runs

-- the canary that two words make
abbrev pub canary_by : ℕ → ℕ → Canary
canary_by low high = record { low = low; high = high; canary = canary_of low high }

-- the canary that is drawn, and the stream after it
abbrev pub drawn_canary : Shape → Words → Option Canary
drawn_canary p stream =
    if has_bytes p then Some (canary_by (next_word stream) (next_word (after_word stream))) else None

abbrev pub canary_stream : Shape → Words → Words
canary_stream p stream = if has_bytes p then after_word (after_word stream) else stream

-- slab n can be opened
pub record CanOpen {P : Type 0} (meaning : pages.Ghosts P) (p : Shape) (k : Slabs) (pages : P) (n : ℕ) : Type 0 where
  pub below : n < p.limit
  pub there : is_some (slab_in (taken_of k) n) ≡ true
  pub apart : IsTrue (meaning.told pages) → MeetsNone (meaning.runs pages) (slab_at p n) p.slab

-- ---- picking
-- from slot i on slab n has an available slot
pub record HasFirst (p : Shape) (uses : Uses) (n i : ℕ) : Type 0 where
  pub index : ℕ
  pub is : first_at uses n i ≡ Some index
  pub within : index < p.slots
  pub available : option_map occupied (use_at uses n index) ≡ Some false

-- a slot of slab n can be picked
pub record CanPick (p : Shape) (k : Slabs) (n : ℕ) : Type 0 where
  pub below : n < p.limit
  pub on : open_at k.slabs n ≡ true
  pub whole : IfSome (slab_in k.slabs n) (λ (b : SlabUse). length b.slots ≡ p.slots)
  pub first : (i : ℕ) → i < p.slots → HasFirst p k.slabs n i
  pub few : live_count k.slabs < 2 ^ 63

abbrev pub CanServe : Shape → Slabs → NextSlab → Type 0
CanServe p k (next.Open n) = CanPick p k n
CanServe p k (next.New n canary) = CanPick p k n
CanServe p k next.Exhausted = ⊤
CanServe p k next.PagesFailed = ⊤

-- the word that draws the slot at which the search begins, where slots are random; that slot, which else is the first;
-- and the stream after it
abbrev pub start_word : Config → Words → Option ℕ
start_word c stream = if c.random_slots then Some (next_word stream) else None

abbrev pub start_from : Config → Shape → Words → ℕ
start_from c p stream = if c.random_slots then drawn p.slots (next_word stream) else 0

abbrev pub start_stream : Config → Words → Words
start_stream c stream = if c.random_slots then after_word stream else stream

abbrev pub slot_in : ℕ → ℕ → Slot
slot_in n i = record { slab = n; index = i }

-- ---- what was and what is: the store and the pages, each before and after
module _ {P : Type 0} (meaning : pages.Ghosts P) (old new : Store) (before now : P) where
  -- the store but for room and the runs are as before, and the pages tell as before and belong to the same region
  pub record KeepsRuns : Type 0 where
    pub slabs : new.slabs.slabs ≡ old.slabs.slabs
    pub lists : SameLists old.slabs new.slabs
    pub stream_same : new.stream ≡ old.stream
    pub quarantine_same : new.quarantine ≡ old.quarantine
    pub told_same : meaning.told now ≡ meaning.told before
    pub owner_same : meaning.owner now ≡ meaning.owner before
    pub page_runs_same : IsTrue (meaning.told before) → meaning.runs now ≡ meaning.runs before

  -- so is the count of faults
  abbrev pub Stays : Type 0
  Stays = KeepsRuns × (meaning.faults now ≡ meaning.faults before)

  module _ (p : Shape) where
    -- slab n was opened with this canary
    pub record Opens (n : ℕ) (canary : Option Canary) : Type 0 where
      pub opened : OpensSlab n (unwrap_or (canary_value canary) 0) old.slabs new.slabs
      pub quarantine_same : new.quarantine ≡ old.quarantine
      pub told_same : meaning.told now ≡ meaning.told before
      pub owner_same : meaning.owner now ≡ meaning.owner before
      pub made : IsTrue (meaning.told before) → meaning.runs now ≡ made_page_runs p n (meaning.runs before)
      pub canary_is : canary ≡ drawn_canary p old.stream
      pub stream_is : new.stream ≡ canary_stream p old.stream
      pub later : meaning.faults before ≤ meaning.faults now

    abbrev pub Finds : NextSlab → Type 0
    Finds (next.Open n) = (front_of old.slabs ≡ Some n) × Stays
    Finds (next.New n canary) = OpensNext old.slabs n × Opens n canary
    Finds next.Exhausted = Sources old.slabs Exhausted × Stays
    Finds next.PagesFailed = (n : ℕ) × OpensNext old.slabs n × KeepsRuns × (has_bytes p ≡ true)
        × (meaning.faults before < meaning.faults now)

  module _ (region : Identity) where
    -- the first available slot of slab n from the start was picked, and given or condemned; the slab went to the
    -- list of its kind
    pub record GivesOf (n : ℕ) (r : Reply) : Type 0 where
      pub index : ℕ
      pub first : first_at old.slabs.slabs n (start_from region.config region.shape old.stream) ≡ Some index
      pub gives : Gives meaning region old.slabs new.slabs before now (slot_in n index) r
      pub lists : new.slabs.lists ≡ placed (list_of (kind_at new.slabs.slabs n)) n old.slabs.lists
      pub parking : new.slabs.parking ≡ old.slabs.parking
      pub numbers : new.slabs.numbers ≡ old.slabs.numbers
      pub stream_is : new.stream ≡ start_stream region.config old.stream
      pub quarantine_same : new.quarantine ≡ old.quarantine

    -- where there is no slab all stays
    abbrev pub GivesFrom : NextSlab → Event → Type 0
    GivesFrom (next.Open n) e = GivesOf n e.reply × (e.choices ≡ no_choices)
        × (e.draws ≡ start_draws None (start_word region.config old.stream))
    GivesFrom (next.New n canary) e = GivesOf n e.reply × (e.choices ≡ chose_opened n canary)
        × (e.draws ≡ start_draws canary (start_word region.config old.stream))
    GivesFrom next.Exhausted e = (e ≡ plain reply.Exhausted) × Stays
    GivesFrom next.PagesFailed e = (e ≡ plain reply.PagesFailed) × Stays
