-- A history of the large region follows from the seed and what comes to it from outside.
use Rattle.std.specs.Prelude.{◌≡◌, ◌⊎◌, ℕ, IsTrue, List, [], ◌∷◌, length, map, ⊤}
use Rattle.hm_model.specs.declared.entry.Entry.{Entry}
use Rattle.hm_model.specs.declared.entry.Call.{Call}
use Rattle.hm_model.specs.declared.entry.Call.TheVariants.{Fill}
use Rattle.hm_model.specs.Runs.{expand}
use Rattle.hm_large_rules.specs.Drawn.{IsDrawn}
use Rattle.hm_model.specs.Replies.{is_page_fault}
use Rattle.hm_large_rules.specs.Rules.{Terms, IsLegal}
use Rattle.hm_guarantees.specs.SameTurns.{Turn, asked_of, HaveRuns, HaveNoFault}
use Rattle.hm_guarantees.specs.FillsSteerNothing.{outcome_of}

-- what comes from outside with an entry
abbrev pub large_turn_of : Entry → Turn
large_turn_of e = record { who = e.who; call = e.call; faults = e.faults_after; page_fault = is_page_fault e.reply }

-- two histories of the large region of a run, over pages that tell
pub record AreOfLargeRegion (seed : ℕ) (t : Terms) (es fs : List Entry) : Type 0 where
  pub told : IsTrue t.told
  pub legal : IsLegal t es
  pub drawn : IsDrawn seed es
  pub other_legal : IsLegal t fs
  pub other_drawn : IsDrawn seed fs

-- of the same turns they are the same
abbrev pub SameLargeTurns : Type 0
SameLargeTurns = (seed : ℕ) (t : Terms) (es fs : List Entry) → AreOfLargeRegion seed t es fs
    → HaveRuns es → HaveRuns fs → map large_turn_of es ≡ map large_turn_of fs → es ≡ fs

-- where there is no page fault, the callers and their calls suffice
abbrev pub SameLargeCalls : Type 0
SameLargeCalls = (seed : ℕ) (t : Terms) (es fs : List Entry) → AreOfLargeRegion seed t es fs
    → HaveRuns es → HaveRuns fs → HaveNoFault es → HaveNoFault fs → map asked_of es ≡ map asked_of fs → es ≡ fs

-- ---- what is written
-- two fills of the same addresses, whatever each writes there
pub record FillSame (call other : Call) : Type 0 where
  pub from : ℕ
  pub runs : List (ℕ × ℕ)
  pub others : List (ℕ × ℕ)
  pub call_is : call ≡ Fill from runs
  pub other_is : other ≡ Fill from others
  pub count : length (expand others) ≡ length (expand runs)

-- the same call of the same caller, but for what is written; a page fault occurs in both or in neither
pub record AskSame (e f : Entry) : Type 0 where
  pub who : e.who ≡ f.who
  pub calls : (e.call ≡ f.call) ⊎ FillSame e.call f.call
  pub faults : e.faults_after ≡ f.faults_after
  pub page_fault : is_page_fault e.reply ≡ is_page_fault f.reply

abbrev pub AllAskSame : List Entry → List Entry → Type 0
AllAskSame [] [] = ⊤
AllAskSame [] (f ∷ fs) = ⊥
AllAskSame (e ∷ es) [] = ⊥
AllAskSame (e ∷ es) (f ∷ fs) = AskSame e f × AllAskSame es fs

-- where they ask the same, the same comes of each, but for the bytes that are read
abbrev pub BlockFillsSteerNothing : Type 0
BlockFillsSteerNothing = (seed : ℕ) (t : Terms) (es fs : List Entry) → AreOfLargeRegion seed t es fs
    → AllAskSame es fs → map outcome_of es ≡ map outcome_of fs
