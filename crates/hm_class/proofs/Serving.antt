-- A slot that was picked, given or condemned, after which its slab went to the list of its kind.
use Rattle.std.proofs.Common.{◌≡◌, ◌≢◌, ℕ, true, Some, sym, ◌∙◌, ap, refl}
use Rattle.hm_outside.specs.declared.pages.Pages as pages
use Rattle.hm_class.specs.declared.identity.Identity.{Identity}
use Rattle.hm_slab_lists.specs.Lists.{Lists, placed}
use Rattle.hm_model.specs.declared.entry.Reply.{Reply}
use Rattle.hm_model.specs.declared.entry.Reply.TheVariants as reply
use Rattle.hm_class.specs.declared.store.Store.{Store}
use Rattle.hm_class.specs.SlotBytes.{KeepsPages}
use Rattle.hm_class.specs.Slabs.{Slabs, SameLists, SameSlots, list_of}
use Rattle.hm_slab_meta.specs.Uses.{SlotUse, Live, Condemned, was_given}
use Rattle.hm_class.specs.Uses.{Uses, passes_at, kind_at, slab_in, open_at, first_at, with_slot, with_use}
use Rattle.hm_class.proofs.Used.{open_changed, open_there, slab_beside}
use Rattle.hm_class.specs.Gives.{Gives}
use Rattle.hm_class.specs.declared.slabs.Slot.{Slot}
use Rattle.hm_class.specs.Finds.{GivesOf, slot_in, start_from, start_stream}

-- the slabs in between have the lists of the old ones, and slab n goes to the list of its kind
pub record GoesToList (n : ℕ) (old mid new : Slabs) : Type 0 where
  pub same : SameLists old mid
  pub slots : SameSlots mid new
  pub lists : new.lists ≡ placed (list_of (kind_at mid.slabs n)) n mid.lists

gives_on : {P : Type 0} (meaning : pages.Ghosts P) (region : Identity) (old : Slabs) {mid new : Slabs} (before now : P) (s : Slot) → SameSlots mid new → (o : Reply) → Gives meaning region old mid before now s o
    → Gives meaning region old new before now s o
gives_on meaning region old before now s same (reply.Given a size) g = record { addr_is = g.addr_is; size_is = g.size_is; clean = g.clean; slabs = same.slabs ∙ g.slabs; written = g.written }
gives_on meaning region old before now s same (reply.Overwritten a at found) g = record { addr_is = g.addr_is; stained = g.stained; pages = g.pages; slabs = same.slabs ∙ g.slabs; same = g.same }
gives_on meaning region old before now s same other g = absurd g

module _ {P : Type 0} {meaning : pages.Ghosts P} {region : Identity} {n : ℕ} {old new : Store} {mid : Slabs} {before now : P} (goes : GoesToList n old.slabs mid new.slabs) where
  pub serve_of : (index : ℕ) (o : Reply) → first_at old.slabs.slabs n (start_from region.config region.shape old.stream) ≡ Some index → Gives meaning region old.slabs mid before now (slot_in n index) o
      → new.stream ≡ start_stream region.config old.stream → new.quarantine ≡ old.quarantine → GivesOf meaning old new before now region n o
  serve_of index o first g taken quarantine = record {
    index = index;
    first = first;
    gives = gives_on meaning region old.slabs before now (slot_in n index) goes.slots o g;
    lists = goes.lists ∙ ap (λ (u : Uses). placed (list_of (kind_at u n)) n mid.lists) (sym goes.slots.slabs)
        ∙ ap (λ (l : Lists). placed (list_of (kind_at new.slabs.slabs n)) n l) goes.same.lists;
    parking = goes.slots.parking ∙ goes.same.parking;
    numbers = goes.slots.numbers ∙ goes.same.numbers;
    stream_is = taken;
    quarantine_same = quarantine;
  }

-- the pages tell as before, and no page fault occurred
pub gives_pages : {P : Type 0} (meaning : pages.Ghosts P) (region : Identity) (n i : ℕ) (old new : Slabs) (before now : P) (o : Reply) → Gives meaning region old new before now (slot_in n i) o
    → KeepsPages meaning before now
gives_pages meaning region n i old new before now (reply.Given a size) g = g.written.pages
gives_pages meaning region n i old new before now (reply.Overwritten a at found) g = g.pages
gives_pages meaning region n i old new before now other g = absurd g

-- one slot of the slab is used otherwise
pub record UsesSlot (n i : ℕ) (old new : Uses) : Type 0 where
  pub used : SlotUse
  pub is : new ≡ with_use old n i used

pub gives_slot : {P : Type 0} (meaning : pages.Ghosts P) (region : Identity) (n i : ℕ) (old new : Slabs) (before now : P) (o : Reply) → Gives meaning region old new before now (slot_in n i) o
    → UsesSlot n i old.slabs new.slabs
gives_slot meaning region n i old new before now (reply.Given a size) g = record { used = Live; is = g.slabs }
gives_slot meaning region n i old new before now (reply.Overwritten a at found) g = record { used = Condemned (passes_at was_given old.slabs n i); is = g.slabs }
gives_slot meaning region n i old new before now other g = absurd g

module _ {n i : ℕ} {old new : Uses} (slot : UsesSlot n i old new) (on : open_at old n ≡ true) where
  -- the slab stays open
  pub given_open : open_at new n ≡ true
  given_open =
      let b = open_there old n on in
      ap (λ (l : Uses). open_at l n) slot.is ∙ open_changed old n (with_slot i slot.used) b.0 b.1 refl ∙ on

  -- the other slabs stay as they are
  pub given_beside : (m : ℕ) → m ≢ n → slab_in new m ≡ slab_in old m
  given_beside m ne =
      let b = open_there old n on in
      ap (λ (l : Uses). slab_in l m) slot.is ∙ slab_beside old n (with_slot i slot.used) b.0 b.1 m ne
