-- How many slots are live, and what stays, through an allotment.
use Rattle.std.proofs.Common.{◌≡◌, ℕ, ◌+◌, ◌≤◌, false, Some, option_map, unwrap_or, sym, ◌∙◌, ap, subst, arith}
use Rattle.std.proofs.lemmas.Option.{same_Some}
use Rattle.hm_outside.specs.declared.pages.Pages as pages
use Rattle.hm_class.specs.declared.identity.Identity.{Identity}
use Rattle.hm_class.specs.declared.next_slab.NextSlab.{NextSlab}
use Rattle.hm_class.specs.declared.next_slab.NextSlab.TheVariants as next
use Rattle.hm_class.specs.declared.event.Event.{Event}
use Rattle.hm_model.specs.declared.entry.Reply.{Reply}
use Rattle.hm_model.specs.declared.entry.Reply.TheVariants as reply
use Rattle.hm_slab_meta.specs.Uses.{SlotUse}
use Rattle.hm_slab_meta.specs.Uses.{Live, Condemned, was_given}
use Rattle.hm_class.specs.declared.store.Store.{Store}
use Rattle.hm_class.specs.SlotBytes.{KeepsPages}
use Rattle.hm_class.specs.Uses.{lives, occupied, passes_at, use_at, live_count}
use Rattle.hm_class.specs.Finds.{Finds, GivesFrom, GivesOf, CanOpen, CanPick, CanServe, slot_in, start_from}
use Rattle.hm_class.specs.Gives.{Gives}
use Rattle.hm_class.specs.Events.{canary_value}
use Rattle.hm_class.specs.Sources.{new_of}
use Rattle.hm_class.proofs.Alike.{AreAlike}
use Rattle.hm_class.proofs.Counts.{mapped}
use Rattle.hm_class.proofs.Drawn.{start_below}
use Rattle.hm_class.proofs.Serving.{gives_pages}
use Rattle.hm_class.proofs.Used.{counted, live_opened}

module _ {P : Type 0} (meaning : pages.Ghosts P) (region : Identity) (store store₁ : Store) (begun mid : P) where
  pub found_live : ((n : ℕ) → new_of store.slabs ≡ Some n → CanOpen meaning region.shape store.slabs begun n) → (n : NextSlab) → Finds meaning store store₁ begun mid region.shape n
      → live_count store₁.slabs.slabs ≡ live_count store.slabs.slabs
  found_live opens (next.Open n) f = ap live_count f.1.0.slabs
  found_live opens (next.New n canary) f =
      ap live_count f.1.opened.slabs ∙ live_opened store.slabs.numbers store.slabs.lists.retired store.slabs.slabs n (unwrap_or (canary_value canary) 0) (opens n f.0.1).there
  found_live opens next.Exhausted f = ap live_count f.1.0.slabs
  found_live opens next.PagesFailed f = ap live_count f.2.slabs

module _ {P : Type 0} (meaning : pages.Ghosts P) (region : Identity) (store₁ store' : Store) (mid now : P) where
  given_more : (o : Reply) (n i : ℕ) (u : SlotUse) → use_at store₁.slabs.slabs n i ≡ Some u → Gives meaning region store₁.slabs store'.slabs mid now (slot_in n i) o → live_count store'.slabs.slabs ≤ live_count store₁.slabs.slabs + 1
  given_more (reply.Given a size) n i u was g = omega (arith, ap live_count g.slabs, counted lives store₁.slabs.slabs n i Live u was)
  given_more (reply.Overwritten a at found) n i u was g = omega (arith, ap live_count g.slabs, counted lives store₁.slabs.slabs n i (Condemned (passes_at was_given store₁.slabs.slabs n i)) u was)
  given_more other n i u was g = absurd g

  more_live : (n : ℕ) (o : Reply) → CanPick region.shape store₁.slabs n → GivesOf meaning store₁ store' mid now region n o → live_count store'.slabs.slabs ≤ live_count store₁.slabs.slabs + 1
  more_live n o can v =
      let first = can.first (start_from region.config region.shape store₁.stream) (start_below region.config region.shape store₁.stream (omega (arith, region.served.shape.slots_some))) in
      let same : first.index ≡ v.index = same_Some first.index v.index (sym first.is ∙ v.first) in
      let free : option_map occupied (use_at store₁.slabs.slabs n v.index) ≡ Some false = subst (λ (i : ℕ). option_map occupied (use_at store₁.slabs.slabs n i) ≡ Some false) same first.available in
      let u = mapped occupied (use_at store₁.slabs.slabs n v.index) false free in
      given_more o n v.index u.0 u.1 v.gives

  pub served_live : (n : NextSlab) (e : Event) → CanServe region.shape store₁.slabs n → GivesFrom meaning store₁ store' mid now region n e
      → live_count store'.slabs.slabs ≤ live_count store₁.slabs.slabs + 1
  served_live (next.Open n) e can v = more_live n e.reply can v.0
  served_live (next.New n canary) e can v = more_live n e.reply can v.0
  served_live next.Exhausted e can v = omega (arith, ap live_count v.1.0.slabs)
  served_live next.PagesFailed e can v = omega (arith, ap live_count v.1.0.slabs)

-- the pages stay alike, and no page fault occurs as a slot is given
module _ {P : Type 0} (meaning : pages.Ghosts P) (region : Identity) (store store₁ : Store) (begun mid : P) where
  pub found_alike : (n : NextSlab) → Finds meaning store store₁ begun mid region.shape n → AreAlike meaning begun mid
  found_alike (next.Open n) f = (f.1.0.told_same, f.1.0.owner_same)
  found_alike (next.New n canary) f = (f.1.told_same, f.1.owner_same)
  found_alike next.Exhausted f = (f.1.0.told_same, f.1.0.owner_same)
  found_alike next.PagesFailed f = (f.2.told_same, f.2.owner_same)

module _ {P : Type 0} (meaning : pages.Ghosts P) (region : Identity) (store₁ store' : Store) (mid now : P) where
  pub served_pages : (n : NextSlab) (e : Event) → GivesFrom meaning store₁ store' mid now region n e → KeepsPages meaning mid now
  served_pages (next.Open n) e v = gives_pages meaning region n v.0.index store₁.slabs store'.slabs mid now e.reply v.0.gives
  served_pages (next.New n canary) e v = gives_pages meaning region n v.0.index store₁.slabs store'.slabs mid now e.reply v.0.gives
  served_pages next.Exhausted e v = record { told = v.1.0.told_same; owner = v.1.0.owner_same; count = v.1.1 }
  served_pages next.PagesFailed e v = record { told = v.1.0.told_same; owner = v.1.0.owner_same; count = v.1.1 }
