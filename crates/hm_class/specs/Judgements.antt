-- What is said of a block that is given back.
use Rattle.std.specs.Prelude.{◌≡◌, ◌≢◌, ◌==◌, ℕ, ◌+◌, true, IsTrue, List, Option, Some, None, Result, Ok, Err, if◌then◌else◌}
use Rattle.std.specs.Int.{from_le_bytes}
use mir.Syntax.{w64}
use Rattle.hm_outside.specs.declared.pages.Pages as pages
use Rattle.hm_outside.specs.PageRuns.{IsHeld, Reads}
use Rattle.hm_sizes.specs.declared.shape.Shape.{Shape}
use Rattle.hm_sizes.specs.Shapes.{usable, has_bytes}
use Rattle.hm_class_rules.specs.Rules.{wrong_size}
use Rattle.hm_model.specs.declared.entry.Reply.{Reply}
use Rattle.hm_model.specs.declared.entry.Reply.TheVariants as reply
use Rattle.hm_class.specs.Slabs.{Slabs}
use Rattle.hm_class.specs.declared.slabs.Slot.{Slot}
use Rattle.hm_class.specs.Sources.{IsLiveAt, Refuses}
use Rattle.hm_class.specs.Uses.{canary_at}

-- the number that 8 bytes are, where it is another
abbrev pub other_number : List ℕ → ℕ → Option ℕ
other_number last canary = if from_le_bytes w64 last == canary then None else Some (from_le_bytes w64 last)

pub record RefusesSize (p : Shape) (k : Slabs) (a : ℕ) (stated : Option ℕ) (block other : ℕ) : Type 0 where
  pub slot : Slot
  pub judged : IsLiveAt p k.slabs a slot
  pub size : wrong_size p stated ≡ Some (block, other)

module _ {P : Type 0} (meaning : pages.Ghosts P) (p : Shape) (k : Slabs) (pages : P) (a : ℕ) where
  -- what is found where the canary stands
  abbrev pub FindsCanary : Slot → Option ℕ → Type 0
  FindsCanary s found =
      IsTrue (meaning.told pages) → IsHeld (meaning.runs pages) (a + usable p) 8
      → (last : List ℕ) × Reads (meaning.runs pages) (a + usable p) 8 last
      × (found ≡ other_number last (canary_at k.slabs s.slab))

  module _ (stated : Option ℕ) where
    pub record RefusesCanary (kept found : ℕ) : Type 0 where
      pub slot : Slot
      pub judged : IsLiveAt p k.slabs a slot
      pub size : wrong_size p stated ≡ None
      pub own : has_bytes p ≡ true
      pub kept_is : kept ≡ canary_at k.slabs slot.slab
      pub other : kept ≢ found
      pub canary : FindsCanary slot (Some found)

    pub record Accepts (slot : Slot) : Type 0 where
      pub judged : IsLiveAt p k.slabs a slot
      pub size : wrong_size p stated ≡ None
      pub canary : has_bytes p ≡ true → FindsCanary slot None

    abbrev pub Refusals : Reply → Type 0
    Refusals reply.NoSlot = Refuses p k.slabs a reply.NoSlot
    Refusals reply.Unused = Refuses p k.slabs a reply.Unused
    Refusals reply.DoubleFree = Refuses p k.slabs a reply.DoubleFree
    Refusals (reply.WrongSize block other) = RefusesSize p k a stated block other
    Refusals (reply.Canary kept found) = RefusesCanary kept found
    Refusals other = ⊥

    abbrev pub Judgements : Result Slot Reply → Type 0
    Judgements (Ok slot) = Accepts slot
    Judgements (Err r) = Refusals r

abbrev pub Measures : Shape → Slabs → ℕ → Reply → Type 0
Measures p k a reply.NoSlot = Refuses p k.slabs a reply.NoSlot
Measures p k a reply.Unused = Refuses p k.slabs a reply.Unused
Measures p k a reply.DoubleFree = Refuses p k.slabs a reply.DoubleFree
Measures p k a (reply.Usable size) = (slot : Slot) × IsLiveAt p k.slabs a slot × (size ≡ usable p)
Measures p k a other = ⊥
