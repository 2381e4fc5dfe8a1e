-- Which entries are allowed, and which histories are legal.
use Rattle.std.specs.Prelude.{◌≡◌, ℕ, ◌+◌, ◌*◌, ◌<◌, ◌≤◌, ◌==◌, nat_lt, Bool, true, false, not, ◌&&◌, if◌then◌else◌, IsTrue, List, length, take, Option, Some, None, is_some, ◌⊎◌}
use Rattle.hm_model.specs.declared.entry.Entry.{Entry}
use Rattle.hm_model.specs.declared.entry.Call.{Call}
use Rattle.hm_model.specs.declared.entry.Call.TheVariants.{Allot, GiveBack, Measure, Fetch, Fill}
use Rattle.hm_model.specs.declared.entry.Reply.{Reply}
use Rattle.hm_model.specs.declared.entry.Reply.TheVariants.{Given, Overwritten, Exhausted, PagesFailed, Freed, NoSlot, Unused, DoubleFree, WrongSize, Canary, Usable, Bytes, Filled, Trap}
use Rattle.hm_model.specs.declared.entry.Choices.{Choices}
use Rattle.hm_model.specs.Calls.{AsksRange, no_choices}
use Rattle.hm_model.specs.Entries.{AreDraws}
use Rattle.hm_model.specs.Machine.{state_after, Legal}
use Rattle.hm_model.specs.Maps.{among, without}
use Rattle.hm_sizes.specs.Sizes.{raised, block_size}
use Rattle.hm_class_rules.specs.State.{State, start, is_open, is_live, is_taken, is_empty, is_partial, empty_slabs, none_partial, none_empty, unopened}
use Rattle.hm_sizes.specs.Shapes.{has_bytes, usable, class_size_of, delay, IsPlace, slab_of}
use Rattle.hm_class_rules.specs.Bytes.{first_trap, bytes_read, usable_bytes, first_nonzero, kept_canary, found_canary}
use Rattle.hm_model.specs.Runs.{expand}
use Rattle.hm_class_rules.specs.Steps.{opened, takes_back, releases, step}
use Rattle.hm_sizes.specs.declared.shape.Shape.{Shape}
use Rattle.hm_sizes.specs.declared.config.Config.{Config}

-- a class region: its configuration and shape, and whether its pages tell their bytes
pub record Terms : Type 0 where
  pub config : Config
  pub shape : Shape
  pub told : Bool

-- ---- allotting
-- no open slab serves
abbrev pub NoneServes : Shape → State → Type 0
NoneServes p s = (none_partial p s ≡ true) × (none_empty p s ≡ true)

-- slab n is the source: a partial one, else an empty one, else the one that is opened
abbrev pub Source : Shape → State → Option ℕ → ℕ → Type 0
Source p s None n = (is_partial p s n ≡ true) ⊎ ((none_partial p s ≡ true) × (is_empty p s n ≡ true))
Source p s (Some m) n = (n ≡ m) × NoneServes p s × (unopened p s.shut s.next ≡ Some m)

-- place a was picked in state `now`, once a slab was opened, if need be
pub record Picks (p : Shape) (s now : State) (c : Choices) (a : ℕ) : Type 0 where
  pub place : IsPlace p a
  pub source : Source p s c.opened (slab_of p a)
  pub open_slab : is_open now (slab_of p a) ≡ true
  pub free : is_taken now a ≡ false
  pub canary : is_some c.canary ≡ (has_bytes p && is_some c.opened)
  pub choices : c ≡ record no_choices { canary = c.canary; opened = c.opened }

-- what the check on reuse finds at a
abbrev pub reuse_finds : Config → Shape → State → ℕ → Option (ℕ × ℕ)
reuse_finds c p s a = if c.check_reuse then first_nonzero (usable_bytes p s a) else None

abbrev pub AllowsGiven : Terms → State → Choices → ℕ → ℕ → Type 0
AllowsGiven t s c a size =
    let now = opened t.shape c.opened c.canary s in
    Picks t.shape s now c a × (size ≡ usable t.shape) × (IsTrue t.told → reuse_finds t.config t.shape now a ≡ None)

abbrev pub AllowsOverwritten : Terms → State → Choices → ℕ → ℕ → ℕ → Type 0
AllowsOverwritten t s c a at found =
    let now = opened t.shape c.opened c.canary s in
    Picks t.shape s now c a × (t.config.check_reuse ≡ true)
    × (IsTrue t.told → reuse_finds t.config t.shape now a ≡ Some (at, found))

abbrev pub AllowsExhausted : Terms → State → Choices → Type 0
AllowsExhausted t s c = NoneServes t.shape s × (unopened t.shape s.shut s.next ≡ None) × (c ≡ no_choices)

abbrev pub AllowsPagesFailed : Terms → State → ℕ → ℕ → Choices → Type 0
AllowsPagesFailed t s before now c =
    NoneServes t.shape s × (is_some (unopened t.shape s.shut s.next) ≡ true) × (has_bytes t.shape ≡ true)
    × (before < now) × (c ≡ no_choices)

-- ---- blocks
pub record IsLiveBlock (p : Shape) (s : State) (a : ℕ) : Type 0 where
  pub place : IsPlace p a
  pub given : among a s.given ≡ true
  pub live : is_live s a ≡ true

abbrev pub IsNoSlot : Shape → State → ℕ → Type 0
IsNoSlot p s a = IsPlace p a → ⊥

abbrev pub IsUnused : Shape → State → ℕ → Type 0
IsUnused p s a = IsPlace p a × (among a s.given ≡ false)

abbrev pub IsDoubleFree : Shape → State → ℕ → Type 0
IsDoubleFree p s a = IsPlace p a × (among a s.given ≡ true) × (is_live s a ≡ false)

-- ---- giving back
-- the block's size and that of the stated size, where they differ
abbrev pub wrong_size : Shape → Option ℕ → Option (ℕ × ℕ)
wrong_size p None = None
wrong_size p (Some size) = if block_size size == class_size_of p then None else Some (class_size_of p, block_size size)

-- the slab's canary and what was found, where they differ
abbrev pub wrong_canary : Shape → State → ℕ → Option (ℕ × ℕ)
wrong_canary p s a = if has_bytes p && not (found_canary p s a == kept_canary p s a)
    then Some (kept_canary p s a, found_canary p s a) else None

-- what may be released, s being the state with the freed slot in quarantine
abbrev pub Releases : Shape → State → Option ℕ → Type 0
Releases p s None = length s.quarantined ≤ p.array + p.ring
Releases p s (Some b) = (among b s.quarantined ≡ true) × (among b (take (delay p) s.frees) ≡ false)
    × (length (without b s.quarantined) ≤ p.array + p.ring)

-- what the empty slabs of a region may come to, in bytes
abbrev pub empty_bytes : ℕ
empty_bytes = 131072

-- the slab that is to go, s being the state after the release: it is empty, and there are too many such
abbrev pub surplus : Shape → State → Option ℕ → Option ℕ
surplus p s None = None
surplus p s (Some b) = if is_empty p s (slab_of p b) && nat_lt empty_bytes (length (empty_slabs p s) * p.slab)
    then Some (slab_of p b) else None

abbrev pub Unparks : ℕ → List ℕ → Option ℕ → Type 0
Unparks most parked None = length parked < most
Unparks most parked (Some u) = (among u parked ≡ true) × (length (without u parked) < most)

-- what becomes of that slab: it is retired, or, where its pages did not go, purged
abbrev pub Empties : Terms → State → ℕ → ℕ → Choices → Option ℕ → Type 0
Empties t s before now c None = (c.retired ≡ None) × (c.purged ≡ None) × (c.unparked ≡ None)
Empties t s before now c (Some m) =
    ((c.retired ≡ Some m) × (c.purged ≡ None) × Unparks t.config.park_length s.parked c.unparked)
    ⊎ ((c.retired ≡ None) × (c.purged ≡ Some m) × (c.unparked ≡ None) × (has_bytes t.shape ≡ true) × (before < now))

pub record AllowsFreed (t : Terms) (s : State) (before now : ℕ) (c : Choices) (a : ℕ) (stated : Option ℕ) : Type 0 where
  pub block : IsLiveBlock t.shape s a
  pub size : wrong_size t.shape stated ≡ None
  pub canary : IsTrue t.told → wrong_canary t.shape s a ≡ None
  pub release : Releases t.shape (takes_back t.shape a s) c.released
  pub emptied : Empties t (releases c.released (takes_back t.shape a s)) before now c
      (surplus t.shape (releases c.released (takes_back t.shape a s)) c.released)
  pub choices : c
      ≡ record no_choices { released = c.released; retired = c.retired; purged = c.purged; unparked = c.unparked }

-- ---- what each call asks of its arguments
abbrev pub Asks : Shape → Call → Type 0
Asks p (Allot asked align) = (raised asked ≤ class_size_of p) × (align ≡ 1)
Asks p call = AsksRange call

-- ---- each call with each of its replies
abbrev pub Allows : Terms → State → ℕ → ℕ → Choices → Call → Reply → Type 0
Allows t s before now c (Allot asked align) (Given a size) = AllowsGiven t s c a size
Allows t s before now c (Allot asked align) (Overwritten a at found) = AllowsOverwritten t s c a at found
Allows t s before now c (Allot asked align) Exhausted = AllowsExhausted t s c
Allows t s before now c (Allot asked align) PagesFailed = AllowsPagesFailed t s before now c
Allows t s before now c (GiveBack a stated) NoSlot = IsNoSlot t.shape s a × (c ≡ no_choices)
Allows t s before now c (GiveBack a stated) Unused = IsUnused t.shape s a × (c ≡ no_choices)
Allows t s before now c (GiveBack a stated) DoubleFree = IsDoubleFree t.shape s a × (c ≡ no_choices)
Allows t s before now c (GiveBack a stated) (WrongSize block other) =
    IsLiveBlock t.shape s a × (wrong_size t.shape stated ≡ Some (block, other)) × (c ≡ no_choices)
Allows t s before now c (GiveBack a stated) (Canary kept found) =
    IsLiveBlock t.shape s a × (wrong_size t.shape stated ≡ None) × (has_bytes t.shape ≡ true)
    × (IsTrue t.told → wrong_canary t.shape s a ≡ Some (kept, found)) × (c ≡ no_choices)
Allows t s before now c (GiveBack a stated) Freed = AllowsFreed t s before now c a stated
Allows t s before now c (Measure a) NoSlot = IsNoSlot t.shape s a × (c ≡ no_choices)
Allows t s before now c (Measure a) Unused = IsUnused t.shape s a × (c ≡ no_choices)
Allows t s before now c (Measure a) DoubleFree = IsDoubleFree t.shape s a × (c ≡ no_choices)
Allows t s before now c (Measure a) (Usable size) = IsLiveBlock t.shape s a × (size ≡ usable t.shape) × (c ≡ no_choices)
Allows t s before now c (Fetch a len) (Bytes runs) = (length (expand runs) ≡ len)
    × (IsTrue t.told → (first_trap t.shape s a len ≡ None) × (expand runs ≡ bytes_read t.shape s a len))
    × (c ≡ no_choices)
Allows t s before now c (Fetch a len) (Trap q) = (IsTrue t.told → first_trap t.shape s a len ≡ Some q) × (c ≡ no_choices)
Allows t s before now c (Fill a runs) Filled =
    (IsTrue t.told → first_trap t.shape s a (length (expand runs)) ≡ None) × (c ≡ no_choices)
Allows t s before now c (Fill a runs) (Trap q) =
    (IsTrue t.told → first_trap t.shape s a (length (expand runs)) ≡ Some q) × (c ≡ no_choices)
Allows t s before now c call reply = ⊥

pub record Allowed (t : Terms) (s : State) (e : Entry) : Type 0 where
  pub draws : AreDraws e.draws
  pub asks : Asks t.shape e.call
  pub follows : e.faults_before ≡ s.faults
  pub later : e.faults_before ≤ e.faults_after
  pub allows : Allows t s e.faults_before e.faults_after e.choices e.call e.reply

abbrev pub state : Terms → List Entry → State
state t entries = state_after (step t.shape) (Allowed t) start entries

abbrev pub IsLegal : Terms → List Entry → Type 0
IsLegal t entries = Legal (step t.shape) (Allowed t) start entries
