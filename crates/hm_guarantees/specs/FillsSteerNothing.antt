-- What is written to usable bytes of live slots, and what it may change in a history.
use Rattle.std.specs.Prelude.{◌≡◌, ◌⊎◌, ℕ, ◌+◌, ◌≤◌, true, List, [], ◌∷◌, length, map, ⊤}
use Rattle.hm_model.specs.declared.entry.Call.{Call}
use Rattle.hm_model.specs.declared.entry.Call.TheVariants.{Fill}
use Rattle.hm_model.specs.declared.entry.Choices.{Choices}
use Rattle.hm_model.specs.declared.entry.Draws.{Draws}
use Rattle.hm_model.specs.declared.entry.Entry.{Entry}
use Rattle.hm_model.specs.declared.entry.Reply.{Reply}
use Rattle.hm_model.specs.declared.entry.Reply.TheVariants.{Bytes}
use Rattle.hm_model.specs.Runs.{expand}
use Rattle.hm_sizes.specs.declared.shape.Shape.{Shape}
use Rattle.hm_sizes.specs.Shapes.{usable}
use Rattle.hm_class_rules.specs.State.{State, start, is_live}
use Rattle.hm_class_rules.specs.Steps.{step}
use Rattle.hm_class_rules.specs.Rules.{Terms}
use Rattle.hm_class_rules.specs.OneEntry.{has_page_fault}
use Rattle.hm_guarantees.specs.SameTurns.{AreOfOneRegion}

-- two fills of the same usable bytes of a live slot, whatever each writes there
pub record FillAlike (p : Shape) (s : State) (call other : Call) : Type 0 where
  pub from : ℕ
  pub runs : List (ℕ × ℕ)
  pub others : List (ℕ × ℕ)
  pub call_is : call ≡ Fill from runs
  pub other_is : other ≡ Fill from others
  pub count : length (expand others) ≡ length (expand runs)
  pub slot : ℕ
  pub live : is_live s slot ≡ true
  pub low : slot ≤ from
  pub high : from + length (expand runs) ≤ slot + usable p

-- the same call, but for what is written to usable bytes of a live slot; a page fault occurs in both or in neither
pub record AskAlike (p : Shape) (s : State) (e f : Entry) : Type 0 where
  pub calls : (e.call ≡ f.call) ⊎ FillAlike p s e.call f.call
  pub faults : e.faults_after ≡ f.faults_after
  pub page_fault : has_page_fault e ≡ has_page_fault f

-- one by one, from a state on
abbrev pub AllAskAlike : Shape → State → List Entry → List Entry → Type 0
AllAskAlike p s [] [] = ⊤
AllAskAlike p s [] (f ∷ fs) = ⊥
AllAskAlike p s (e ∷ es) [] = ⊥
AllAskAlike p s (e ∷ es) (f ∷ fs) = AskAlike p s e f × AllAskAlike p (step p s e) es fs

-- what comes of an entry: its reply, but for the bytes that it read, what was chosen, and which words were drawn
abbrev pub unread : Reply → Reply
unread (Bytes runs) = Bytes []
unread reply = reply

pub record Outcome : Type 0 where
  pub reply : Reply
  pub choices : Choices
  pub draws : Draws

abbrev pub outcome_of : Entry → Outcome
outcome_of e = record { reply = unread e.reply; choices = e.choices; draws = e.draws }

-- where they ask alike, the same comes of each: the same places, refusals, slabs, canaries and words
abbrev pub FillsSteerNothing : Type 0
FillsSteerNothing = (seed arena : ℕ) (t : Terms) (es fs : List Entry) → AreOfOneRegion seed arena t es fs
    → AllAskAlike t.shape start es fs → map outcome_of es ≡ map outcome_of fs
