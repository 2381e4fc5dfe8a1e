-- What is written anywhere, and what it may change in a history until it is found.
use Rattle.std.specs.Prelude.{◌≡◌, ◌⊎◌, ℕ, List, [], ◌∷◌, map, ⊤}
use Rattle.std.specs.List.{AllByRecursion as EachIs}
use Rattle.hm_model.specs.declared.entry.Entry.{Entry}
use Rattle.hm_model.specs.declared.entry.Reply.{Reply}
use Rattle.hm_model.specs.declared.entry.Reply.TheVariants.{Overwritten, Canary}
use Rattle.hm_class_rules.specs.OneEntry.{has_page_fault}
use Rattle.hm_class_rules.specs.Rules.{Terms}
use Rattle.hm_guarantees.specs.FillsSteerNothing.{outcome_of}
use Rattle.hm_guarantees.specs.SameLargeTurns.{FillSame}
use Rattle.hm_guarantees.specs.SameTurns.{AreOfOneRegion}

-- the same call, but for what is written, wherever it is; a page fault occurs in both or in neither
pub record AskWritten (e f : Entry) : Type 0 where
  pub calls : (e.call ≡ f.call) ⊎ FillSame e.call f.call
  pub faults : e.faults_after ≡ f.faults_after
  pub page_fault : has_page_fault e ≡ has_page_fault f

abbrev pub AllAskWritten : List Entry → List Entry → Type 0
AllAskWritten [] [] = ⊤
AllAskWritten [] (f ∷ fs) = ⊥
AllAskWritten (e ∷ es) [] = ⊥
AllAskWritten (e ∷ es) (f ∷ fs) = AskWritten e f × AllAskWritten es fs

-- the reply tells of no canary and of no freed slot that it was written to
abbrev pub FindsNone : Reply → Type 0
FindsNone (Canary kept found) = ⊥
FindsNone (Overwritten a place found) = ⊥
FindsNone reply = ⊤

abbrev pub AllFindNone : List Entry → Type 0
AllFindNone es = EachIs (λ e. FindsNone e.reply) es

-- of a class region: up to the first that does, the same comes of each entry, but for the bytes that are read
abbrev pub WritesSteerNothing : Type 0
WritesSteerNothing = (seed arena : ℕ) (t : Terms) (es fs : List Entry) → AreOfOneRegion seed arena t es fs
    → AllAskWritten es fs → AllFindNone es → AllFindNone fs → map outcome_of es ≡ map outcome_of fs
