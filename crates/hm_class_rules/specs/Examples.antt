-- Short histories that are legal, and some that are not.
use Rattle.std.specs.Prelude.{ℕ, true, false, List, [], ◌∷◌, Option, Some, None}
use Rattle.hm_model.specs.declared.entry.Entry.{Entry}
use Rattle.hm_model.specs.declared.entry.Call.{Call}
use Rattle.hm_model.specs.declared.entry.Call.TheVariants.{Allot, GiveBack, Measure, Fetch, Fill}
use Rattle.hm_model.specs.declared.entry.Reply.{Reply}
use Rattle.hm_model.specs.declared.entry.Reply.TheVariants.{Given, Overwritten, Exhausted, PagesFailed, Freed, DoubleFree, WrongSize, Canary, Usable, Bytes, Filled, Trap}
use Rattle.hm_model.specs.declared.entry.Choices.{Choices}
use Rattle.hm_sizes.specs.declared.shape.Shape.{Shape}
use Rattle.hm_sizes.specs.Configs.{standard}
use Rattle.hm_model.specs.Calls.{no_choices}
use Rattle.hm_class_rules.specs.Rules.{Terms}

-- what the shapes have in common, where they don't say otherwise: slots without bytes of their own, every second
-- slab a guard, and no quarantine
abbrev pub basic : Shape
basic = record {
  class = record { 0 = 0 };
  slot = 16;
  slots = 256;
  slab = 4096;
  first = 4096;
  limit = 4;
  guard_interval = 1;
  array = 0;
  ring = 0;
}

-- a region of this shape, in the configuration as it is, whose pages tell their bytes
abbrev pub region : Shape → Terms
region shape = record { config = standard; shape = shape; told = true }

-- an entry of caller 1, without drawn words and page faults
abbrev pub entry : Call → Reply → Choices → Entry
entry call reply choices = record {
  who = record { caller = 1; round = 1; thread = 1; step = 1; part = 1 };
  call = call;
  reply = reply;
  choices = choices;
  draws = record { used = 0; w0 = 0; w1 = 0; w2 = 0 };
  faults_before = 0;
  faults_after = 0;
}

-- an entry after the first page fault
abbrev pub later : Entry → Entry
later e = record e { faults_before = 1; faults_after = 1 }

-- a block without bytes is given; a block is freed, and its size is not stated
abbrev pub given : ℕ → Choices → Entry
given addr choices = entry (Allot 0 1) (Given addr 0) choices

abbrev pub freed : ℕ → Choices → Entry
freed addr choices = entry (GiveBack addr None) Freed choices

-- the choices of a giving that opens a slab, and of a free that releases a slot, and retires its slab too
abbrev pub opens : ℕ → ℕ → Choices
opens slab canary = record no_choices { canary = Some canary; opened = Some slab }

abbrev pub opens_bare : ℕ → Choices
opens_bare slab = record no_choices { opened = Some slab }

abbrev pub frees : ℕ → Choices
frees addr = record no_choices { released = Some addr }

abbrev pub retires : ℕ → ℕ → Option ℕ → Choices
retires addr slab unparked = record no_choices { released = Some addr; retired = Some slab; unparked = unparked }

-- ---- class 7 as it is, without a quarantine
abbrev pub seven : Terms
seven = region (record basic { class = record { 0 = 7 }; slot = 112; slots = 36; limit = 256 })

-- a double free, and what a size that is stated says of the block
abbrev pub double_free : List Entry
double_free =
    entry (Allot 100 1) (Given 4096 104) (opens 0 256)
    ∷ freed 4096 (frees 4096)
    ∷ entry (GiveBack 4096 None) DoubleFree no_choices
    ∷ entry (Measure 4096) DoubleFree no_choices ∷ []

abbrev pub stated_size : List Entry
stated_size =
    entry (Allot 100 1) (Given 4096 104) (opens 0 256)
    ∷ entry (GiveBack 4096 (Some 105)) (WrongSize 112 128) no_choices
    ∷ entry (Measure 4096) (Usable 104) no_choices
    ∷ entry (GiveBack 4096 (Some 97)) Freed (frees 4096) ∷ []

-- ---- two slots of 16 bytes to a slab of 32
abbrev pub small : Terms
small = region (record basic { class = record { 0 = 1 }; slots = 2; slab = 32 })

-- given, its canary overwritten, and not taken back
abbrev pub bad_canary : List Entry
bad_canary =
    entry (Allot 8 1) (Given 4096 8) (opens 0 256)
    ∷ entry (Fill 4104 ((65, 8) ∷ [])) Filled no_choices
    ∷ entry (GiveBack 4096 None) (Canary 256 4702111234474983745) no_choices
    ∷ entry (GiveBack 4096 None) (Canary 256 4702111234474983745) no_choices ∷ []

-- given, freed, written, and found overwritten; the slot is not given again
abbrev pub write_after_free : List Entry
write_after_free =
    entry (Allot 8 1) (Given 4096 8) (opens 0 256)
    ∷ freed 4096 (frees 4096)
    ∷ entry (Fill 4098 ((65, 2) ∷ [])) Filled no_choices
    ∷ entry (Fetch 4097 4) (Bytes ((0, 1) ∷ (65, 2) ∷ (0, 1) ∷ [])) no_choices
    ∷ entry (Fetch 4126 4) (Trap 4128) no_choices
    ∷ entry (Allot 8 1) (Overwritten 4096 2 65) no_choices
    ∷ entry (Allot 8 1) (Given 4112 8) no_choices ∷ []

-- ---- slabs of one slot and 131,072 bytes of address space, without bytes of their own
abbrev pub bare : Terms
bare = region (record basic { slot = 131072; slots = 1; slab = 131072; first = 1103806599168; limit = 262144 })

-- the second slab that a free empties is retired, parked, and not opened again at once; slab 3 is a guard
abbrev pub retired_slab : List Entry
retired_slab =
    given 1103806599168 (opens_bare 0)
    ∷ given 1103806861312 (opens_bare 2)
    ∷ freed 1103806599168 (frees 1103806599168)
    ∷ freed 1103806861312 (retires 1103806861312 2 None)
    ∷ given 1103806599168 no_choices
    ∷ given 1103807123456 (opens_bare 4) ∷ []

-- ---- a ring of one
abbrev pub ringed : Terms
ringed = region (record basic { ring = 1 })

-- a slot is released by the next free, and not by its own
abbrev pub waiting : List Entry
waiting =
    given 4096 (opens_bare 0)
    ∷ entry (GiveBack 4096 (Some 0)) Freed no_choices
    ∷ given 4112 no_choices
    ∷ freed 4112 (frees 4096) ∷ []

abbrev pub released_too_early : List Entry
released_too_early = given 4096 (opens_bare 0) ∷ freed 4096 (frees 4096) ∷ []

-- a guard is no place
abbrev pub given_in_a_guard : List Entry
given_in_a_guard = given 8192 (opens_bare 1) ∷ []

-- ---- one slab of two slots, without the check on reuse
abbrev pub unchecked : Terms
unchecked = record small {
  config = record standard { check_reuse = false };
  shape = record small.shape { limit = 1; guard_interval = 8 };
}

-- a page fault occurs; later a slot that was written after its free is given as it is, and there is no third
abbrev pub reused : List Entry
reused =
    record (entry (Allot 8 1) PagesFailed no_choices) { faults_after = 1 }
    ∷ later (entry (Allot 8 1) (Given 4096 8) (opens 0 256))
    ∷ later (freed 4096 (frees 4096))
    ∷ later (entry (Fill 4100 ((65, 4) ∷ [])) Filled no_choices)
    ∷ later (entry (Allot 8 1) (Given 4096 8) no_choices)
    ∷ later (entry (Fetch 4096 9) (Bytes ((0, 4) ∷ (65, 4) ∷ (0, 1) ∷ [])) no_choices)
    ∷ later (entry (Allot 8 1) (Given 4112 8) no_choices)
    ∷ later (entry (Allot 8 1) Exhausted no_choices) ∷ []
