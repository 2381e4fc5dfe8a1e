-- A call of a heap as a plan: its parts, each chosen by the replies before it, and its answer.
use Rattle.std.specs.Prelude.{◌≡◌, ◌+◌, ℕ, Option, MatchOption, Result, Ok, Err, IfOk, MatchResult}
use Rattle.hm_base.specs.declared.memory.NoMemory.{NoMemory}
use Rattle.hm_model.specs.declared.answer.Answer.{Answer}
use Rattle.hm_model.specs.declared.answer.Answer.TheVariants.{Busy}
use Rattle.hm_model.specs.declared.entry.Call.{Call}
use Rattle.hm_model.specs.declared.entry.Reply.{Reply}
use Rattle.hm_model.specs.declared.entry.Who.{Who}
use Rattle.hm_heap.specs.Passes.{HeapView, PassView, GoesOnAs}
use Rattle.hm_heap.specs.Parts.{who_of, HasPart, HasTried}
use Rattle.hm_heap.specs.Requests.{AnswerInReach}

-- an answer, or a call of the region at an index and what follows its reply
pub data Plan : Type 0 where
  Done : Answer → Plan
  Part : ℕ → Call → (Reply → Plan) → Plan

-- ---- a plan is followed
-- from the reply on the rest is done, and want of memory ends the call
abbrev pub GoesOn : PassView → PassView → Result Answer NoMemory → (PassView → Reply → Type 0) → Result Reply NoMemory
    → Type 0
GoesOn between q answer Rest made = MatchResult made (Rest between) (λ none. (q ≡ between) × (answer ≡ Err none))

-- the part was made, and then the rest
pub record MakesPart (p q : PassView) (index : ℕ) (who : Who) (call : Call) (answer : Result Answer NoMemory)
    (Rest : PassView → Reply → Type 0) : Type 0 where
  pub between : PassView
  pub made : Result Reply NoMemory
  pub same : between ≡ record p { turns = between.turns }
  pub part : HasPart p between index who call made
  pub rest : GoesOn between q answer Rest made

-- from pass p to pass q the plan was followed, with this answer; its parts are numbered from n
abbrev pub Follows : PassView → PassView → ℕ → ℕ → Plan → Result Answer NoMemory → Type 0
Follows p q step n (Done a) answer = (answer ≡ Ok a) × (q ≡ p)
Follows p q step n (Part index call next) answer =
    MakesPart p q index (who_of p step n) call answer
    (λ between reply. Follows between q step (n + 1) (next reply) answer)

-- a call of heap h: pass p goes on as pass q, the plan was followed, and a block that is answered lies in reach
pub record CarriesOut (h : HeapView) (p q : PassView) (step n : ℕ) (plan : Plan)
    (answer : Result Answer NoMemory) : Type 0 where
  pub goes_on : GoesOnAs h p q
  pub follows : Follows p q step n plan answer
  pub reach : IfOk answer AnswerInReach

-- some plan of this kind was carried out
pub record FollowsSome (h : HeapView) (IsPlan : Plan → Type 0) (p q : PassView) (step : ℕ)
    (answer : Result Answer NoMemory) : Type 0 where
  pub plan : Plan
  pub is : IsPlan plan
  pub carried : CarriesOut h p q step 1 plan answer

-- ---- a plan is tried
-- the first part may have found the turn not free: then the answer is Busy
pub record TriesPart (p q : PassView) (index : ℕ) (who : Who) (call : Call) (answer : Result Answer NoMemory)
    (Rest : PassView → Reply → Type 0) : Type 0 where
  pub between : PassView
  pub tried : Option (Result Reply NoMemory)
  pub same : between ≡ record p { turns = between.turns }
  pub part : HasTried p between index who call tried
  pub rest : MatchOption tried ((q ≡ between) × (answer ≡ Ok Busy)) (GoesOn between q answer Rest)

abbrev pub Tries : PassView → PassView → ℕ → Plan → Result Answer NoMemory → Type 0
Tries p q step (Done a) answer = (answer ≡ Ok a) × (q ≡ p)
Tries p q step (Part index call next) answer =
    TriesPart p q index (who_of p step 1) call answer (λ between reply. Follows between q step 2 (next reply) answer)

-- as CarriesOut, where the plan was tried
pub record TriesOut (h : HeapView) (p q : PassView) (step : ℕ) (plan : Plan)
    (answer : Result Answer NoMemory) : Type 0 where
  pub goes_on : GoesOnAs h p q
  pub tries : Tries p q step plan answer
  pub reach : IfOk answer AnswerInReach

-- some plan of this kind was tried
pub record TriesSome (h : HeapView) (IsPlan : Plan → Type 0) (p q : PassView) (step : ℕ)
    (answer : Result Answer NoMemory) : Type 0 where
  pub plan : Plan
  pub is : IsPlan plan
  pub tried : TriesOut h p q step plan answer
