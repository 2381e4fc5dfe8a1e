-- What giving a slot changes.
use Rattle.std.specs.Prelude.{◌≡◌, ℕ, ◌+◌, ◌<◌, ◌^◌, true, false, IsTrue, List, Option, Some, None}
use Rattle.std.specs.Int.{to_le_bytes}
use mir.Syntax.{w64}
use Rattle.hm_outside.specs.declared.pages.Pages as pages
use Rattle.hm_outside.specs.PageRuns.{IsHeld, Reads, Writes}
use Rattle.hm_sizes.specs.declared.config.Config.{Config}
use Rattle.hm_sizes.specs.declared.shape.Shape.{Shape}
use Rattle.hm_sizes.specs.Shapes.{place, usable, has_bytes}
use Rattle.hm_class_rules.specs.Bytes.{first_nonzero}
use Rattle.hm_class.specs.declared.identity.Identity.{Identity}
use Rattle.hm_model.specs.declared.entry.Reply.{Reply}
use Rattle.hm_model.specs.declared.entry.Reply.TheVariants as reply
use Rattle.hm_slab_meta.specs.Uses.{Live, Condemned, was_given}
use Rattle.hm_class.specs.Slabs.{Slabs}
use Rattle.hm_class.specs.SlotBytes.{KeepsPages}
use Rattle.hm_class.specs.declared.slabs.Slot.{Slot}
use Rattle.hm_class.specs.Sources.{IsAvailable}
use Rattle.hm_class.specs.Uses.{passes_at, canary_at, with_use, live_count}

module _ {P : Type 0} (meaning : pages.Ghosts P) where
  -- what is found among the usable bytes of the slot at a, where reuse is checked and slots have bytes
  pub record Stains (c : Config) (p : Shape) (pages : P) (a : ℕ) (found : Option (ℕ × ℕ)) : Type 0 where
    pub unchecked : c.check_reuse ≡ false → found ≡ None
    pub none : has_bytes p ≡ false → found ≡ None
    pub some : c.check_reuse ≡ true → has_bytes p ≡ true → IsTrue (meaning.told pages)
        → IsHeld (meaning.runs pages) a (usable p)
        → (slice : List ℕ) × Reads (meaning.runs pages) a (usable p) slice × (found ≡ first_nonzero slice)

  -- the canary was set behind them
  pub record Seals (p : Shape) (before now : P) (a canary : ℕ) : Type 0 where
    pub pages : KeepsPages meaning before now
    pub none : has_bytes p ≡ false → IsTrue (meaning.told before) → meaning.runs now ≡ meaning.runs before
    pub some : has_bytes p ≡ true → IsTrue (meaning.told before) → IsHeld (meaning.runs before) (a + usable p) 8
        → Writes (meaning.runs before) (a + usable p) 8 (to_le_bytes w64 canary) (meaning.runs now)

-- slot s can be given
pub record CanGive (p : Shape) (k : Slabs) (s : Slot) : Type 0 where
  pub slab : s.slab < p.limit
  pub index : s.index < p.slots
  pub available : IsAvailable k.slabs s
  pub few : live_count k.slabs < 2 ^ 63

-- what was and what is: the slabs and the pages, before and after slot s was given, or condemned
module _ {P : Type 0} (meaning : pages.Ghosts P) (region : Identity) (old new : Slabs) (before now : P) (s : Slot)
  where
    -- nothing is found; the slot becomes live, and its last 8 bytes the canary
    pub record GivesSlot (a size : ℕ) : Type 0 where
      pub addr_is : a ≡ place region.shape s.slab s.index
      pub size_is : size ≡ usable region.shape
      pub clean : Stains meaning region.config region.shape before a None
      pub slabs : new.slabs ≡ with_use old.slabs s.slab s.index Live
      pub written : Seals meaning region.shape before now a (canary_at old.slabs s.slab)

    -- a usable byte that is not zero is found; the slot is condemned
    pub record CondemnsSlot (a at found : ℕ) : Type 0 where
      pub addr_is : a ≡ place region.shape s.slab s.index
      pub stained : Stains meaning region.config region.shape before a (Some (at, found))
      pub pages : KeepsPages meaning before now
      pub slabs : new.slabs
          ≡ with_use old.slabs s.slab s.index (Condemned (passes_at was_given old.slabs s.slab s.index))
      pub same : IsTrue (meaning.told before) → meaning.runs now ≡ meaning.runs before

    abbrev pub Gives : Reply → Type 0
    Gives (reply.Given a size) = GivesSlot a size
    Gives (reply.Overwritten a at found) = CondemnsSlot a at found
    Gives other = ⊥
