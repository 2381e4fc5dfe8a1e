-- Which entries of the large region are allowed, and which histories are legal.
use Rattle.std.specs.Prelude.{◌≡◌, ℕ, ◌+◌, ◌*◌, ◌%◌, ◌<◌, ◌≤◌, ◌^◌, ◌==◌, max, Bool, true, false, if◌then◌else◌, IsTrue, List, length, take, Option, Some, None, unwrap_or, option_map}
use Rattle.std.specs.Bool.{MatchBool}
use Rattle.hm_model.specs.declared.entry.Entry.{Entry}
use Rattle.hm_model.specs.declared.entry.Call.{Call}
use Rattle.hm_model.specs.declared.entry.Call.TheVariants.{Allot, GiveBack, Measure, Fetch, Fill}
use Rattle.hm_model.specs.declared.entry.Reply.{Reply}
use Rattle.hm_model.specs.declared.entry.Reply.TheVariants.{Given, NoSpace, PagesFailed, Freed, WrongSize, NotLive, Usable, Bytes, Filled, Trap}
use Rattle.hm_model.specs.declared.entry.Choices.{Choices}
use Rattle.hm_model.specs.Calls.{AsksRange, no_choices}
use Rattle.hm_model.specs.Entries.{AreDraws}
use Rattle.hm_model.specs.Machine.{state_after, Legal}
use Rattle.hm_model.specs.Maps.{at, has, among, removed}
use Rattle.hm_model.specs.Runs.{expand}
use Rattle.hm_quarantine.specs.Delay.{delay, slots_of}
use Rattle.hm_sizes.specs.Aligned.{IsAlignment}
use Rattle.hm_sizes.specs.Homes.{large_start}
use Rattle.hm_sizes.specs.Sizes.{block_size}
use Rattle.hm_sizes.specs.declared.config.Config.{Config}
use Rattle.hm_large_rules.specs.State.{Block, State, start, size_for, is_quarantined, array_length, ring_length, spans, taken}
use Rattle.hm_large_rules.specs.Bytes.{first_trap, bytes_read}
use Rattle.hm_large_rules.specs.Steps.{step, takes_back}

-- the large region: its configuration, and whether its pages tell their bytes
pub record Terms : Type 0 where
  pub config : Config
  pub told : Bool

-- ---- choices
abbrev pub chose_guard : ℕ → Choices
chose_guard guard = record no_choices { guard = Some guard }

-- ---- allotting
-- a block of this size with this guard may stand at a
pub record IsCandidate (c : Config) (s : State) (align size guard a : ℕ) : Type 0 where
  pub aligned : a % max align 4096 ≡ 0
  pub from : large_start + 4096 * guard ≤ a
  pub to : a + size + 4096 * guard ≤ large_start + c.large_space
  pub free : (q : ℕ) → spans a size guard q ≡ true → taken s q ≡ 0

-- a is the lowest candidate
pub record IsLeastCandidate (c : Config) (s : State) (align size guard a : ℕ) : Type 0 where
  pub fits : IsCandidate c s align size guard a
  pub least : (other : ℕ) → IsCandidate c s align size guard other → a ≤ other

abbrev pub AllowsGiven : Terms → State → ℕ → ℕ → ℕ → ℕ → ℕ → Type 0
AllowsGiven t s guard asked align a usable =
    IsLeastCandidate t.config s align (size_for asked) guard a × (usable ≡ size_for asked)

abbrev pub AllowsNoSpace : Terms → State → ℕ → ℕ → ℕ → Type 0
AllowsNoSpace t s guard asked align = (a : ℕ) → IsCandidate t.config s align (size_for asked) guard a → ⊥

abbrev pub AllowsPagesFailed : Terms → State → ℕ → ℕ → ℕ → ℕ → ℕ → Type 0
AllowsPagesFailed t s before now guard asked align =
    ((a : ℕ) × IsCandidate t.config s align (size_for asked) guard a) × (before < now)

-- ---- blocks
abbrev pub IsLiveBlock : State → ℕ → Type 0
IsLiveBlock s a = has a s.live ≡ true

abbrev pub IsNotLive : State → ℕ → Type 0
IsNotLive s a = has a s.live ≡ false

-- ---- giving back
-- the block's size and that of the stated size, where they differ
abbrev pub wrong_size : Option Block → Option ℕ → Option (ℕ × ℕ)
wrong_size None stated = None
wrong_size (Some b) None = None
wrong_size (Some b) (Some size) = if block_size size == b.size then None else Some (b.size, block_size size)

-- what may be released, s being the state with the freed block in quarantine
abbrev pub Releases : State → Option ℕ → Type 0
Releases s None = length s.quarantined ≤ array_length + ring_length
Releases s (Some b) = (has b s.quarantined ≡ true)
    × (among b (take (delay array_length ring_length) (slots_of s.frees)) ≡ false)
    × (length (removed b s.quarantined) ≤ array_length + ring_length)

-- a block that does not go into quarantine releases none
abbrev pub ReleasesFor : Option Block → State → Option ℕ → Type 0
ReleasesFor None s released = ⊥
ReleasesFor (Some b) s released = MatchBool (is_quarantined b) (Releases s released) (released ≡ None)

pub record AllowsFreed (s : State) (word : ℕ) (c : Choices) (a : ℕ) (stated : Option ℕ) : Type 0 where
  pub block : IsLiveBlock s a
  pub size : wrong_size (at a s.live) stated ≡ None
  pub release : ReleasesFor (at a s.live) (takes_back a word (at a s.live) s) c.released
  pub choices : c ≡ record no_choices { released = c.released }

-- ---- what each call asks of its arguments
abbrev pub Asks : Call → Type 0
Asks (Allot asked align) = (asked ≤ 2 ^ 30) × IsAlignment align
Asks call = AsksRange call

-- ---- each call with each of its replies
abbrev pub Allows : Terms → State → Entry → Call → Reply → Type 0
Allows t s e (Allot asked align) (Given a usable) = AllowsGiven t s (unwrap_or e.choices.guard 0) asked align a usable
    × (e.choices ≡ chose_guard (unwrap_or e.choices.guard 0))
Allows t s e (Allot asked align) NoSpace = AllowsNoSpace t s (unwrap_or e.choices.guard 0) asked align
    × (e.choices ≡ chose_guard (unwrap_or e.choices.guard 0))
Allows t s e (Allot asked align) PagesFailed =
    AllowsPagesFailed t s e.faults_before e.faults_after (unwrap_or e.choices.guard 0) asked align
    × (e.choices ≡ chose_guard (unwrap_or e.choices.guard 0))
Allows t s e (GiveBack a stated) NotLive = IsNotLive s a × (e.choices ≡ no_choices)
Allows t s e (GiveBack a stated) (WrongSize block other) =
    (wrong_size (at a s.live) stated ≡ Some (block, other)) × (e.choices ≡ no_choices)
Allows t s e (GiveBack a stated) PagesFailed = IsLiveBlock s a × (wrong_size (at a s.live) stated ≡ None)
    × (e.faults_before < e.faults_after) × (e.choices ≡ no_choices)
Allows t s e (GiveBack a stated) Freed = AllowsFreed s e.draws.w0 e.choices a stated
Allows t s e (Measure a) NotLive = IsNotLive s a × (e.choices ≡ no_choices)
Allows t s e (Measure a) (Usable size) =
    (option_map (λ (b : Block). b.size) (at a s.live) ≡ Some size) × (e.choices ≡ no_choices)
Allows t s e (Fetch a len) (Bytes runs) =
    (length (expand runs) ≡ len) × (IsTrue t.told
    → (first_trap s.live a len ≡ None) × (expand runs ≡ bytes_read s.live a len)) × (e.choices ≡ no_choices)
Allows t s e (Fetch a len) (Trap q) = (IsTrue t.told → first_trap s.live a len ≡ Some q) × (e.choices ≡ no_choices)
Allows t s e (Fill a runs) Filled =
    (IsTrue t.told → first_trap s.live a (length (expand runs)) ≡ None) × (e.choices ≡ no_choices)
Allows t s e (Fill a runs) (Trap q) =
    (IsTrue t.told → first_trap s.live a (length (expand runs)) ≡ Some q) × (e.choices ≡ no_choices)
Allows t s e call reply = ⊥

pub record Allowed (t : Terms) (s : State) (e : Entry) : Type 0 where
  pub draws : AreDraws e.draws
  pub asks : Asks e.call
  pub follows : e.faults_before ≡ s.faults
  pub later : e.faults_before ≤ e.faults_after
  pub allows : Allows t s e e.call e.reply

abbrev pub state : Terms → List Entry → State
state t entries = state_after step (Allowed t) start entries

abbrev pub IsLegal : Terms → List Entry → Type 0
IsLegal t entries = Legal step (Allowed t) start entries
