-- A history follows from which region it is of, the seed, and what comes to it from outside.
use Rattle.std.specs.Prelude.{◌≡◌, ℕ, ◌≤◌, Bool, IsTrue, List, map}
use Rattle.std.specs.List.{AllByRecursion as EachIs}
use Rattle.hm_model.specs.declared.entry.Entry.{Entry}
use Rattle.hm_model.specs.declared.entry.Call.{Call}
use Rattle.hm_model.specs.declared.entry.Who.{Who}
use Rattle.hm_sizes.specs.Shapes.{IsShape}
use Rattle.hm_class_rules.specs.Rules.{Terms, IsLegal}
use Rattle.hm_class_rules.specs.Drawn.{IsDrawn}
use Rattle.hm_model.specs.Replies.{HasRuns}
use Rattle.hm_class_rules.specs.OneEntry.{has_page_fault}

-- what comes from outside with an entry: who calls, what is asked, how many page faults there were by then, and whether
-- one occurred in this call
pub record Turn : Type 0 where
  pub who : Who
  pub call : Call
  pub faults : ℕ
  pub page_fault : Bool

abbrev pub turn_of : Entry → Turn
turn_of e = record { who = e.who; call = e.call; faults = e.faults_after; page_fault = has_page_fault e }

-- who calls, and what is asked
pub record Asked : Type 0 where
  pub who : Who
  pub call : Call

abbrev pub asked_of : Entry → Asked
asked_of e = record { who = e.who; call = e.call }

-- the bytes that were read stand in as few runs as they can, as the types of entries promise
abbrev pub HaveRuns : List Entry → Type 0
HaveRuns es = EachIs (λ e. HasRuns e.reply) es

-- no page fault occurred
abbrev pub HaveNoFault : List Entry → Type 0
HaveNoFault es = EachIs (λ e. e.faults_after ≡ 0) es

-- two histories of one region of a run, over pages that tell
pub record AreOfOneRegion (seed arena : ℕ) (t : Terms) (es fs : List Entry) : Type 0 where
  pub parks : 1 ≤ t.config.park_length
  pub shape : IsShape t.shape
  pub told : IsTrue t.told
  pub legal : IsLegal t es
  pub drawn : IsDrawn seed arena t es
  pub other_legal : IsLegal t fs
  pub other_drawn : IsDrawn seed arena t fs

-- of the same turns they are the same
abbrev pub SameTurns : Type 0
SameTurns = (seed arena : ℕ) (t : Terms) (es fs : List Entry) → AreOfOneRegion seed arena t es fs
    → HaveRuns es → HaveRuns fs → map turn_of es ≡ map turn_of fs → es ≡ fs

-- where there is no page fault, the callers and their calls suffice
abbrev pub SameCalls : Type 0
SameCalls = (seed arena : ℕ) (t : Terms) (es fs : List Entry) → AreOfOneRegion seed arena t es fs
    → HaveRuns es → HaveRuns fs → HaveNoFault es → HaveNoFault fs → map asked_of es ≡ map asked_of fs → es ≡ fs
