-- What the calls of a pass add to its own entries, and what they leave.
use Rattle.std.specs.Prelude.{◌≡◌, Bool, true, false, ℕ, ◌++◌, List, [], ◌∷◌, length, map, slice_index_or, Result, IfOk, OnErr}
use Rattle.hm_base.specs.declared.memory.NoMemory.{NoMemory}
use Rattle.hm_model.specs.declared.answer.Answer.{Answer}
use Rattle.hm_model.specs.declared.answer.Answer.TheVariants as answer
use Rattle.hm_turn.specs.Histories.{StartsWith}
use Rattle.hm_turn.specs.Known.{Lock, Known}
use Rattle.hm_heap.specs.Parts.{who_of}
use Rattle.hm_heap.specs.Passes.{HeapView, PassView, AreOf}
use Rattle.hm_heap.specs.Plans.{Plan}
use Rattle.hm_heap.specs.Requests.{AnswerInReach}
use Rattle.hm_report.specs.declared.results.StepResult.{StepResult}
use Rattle.hm_trace.specs.Views.{StepView}
use Rattle.hm_replay.specs.Names.{Names}
use Rattle.hm_replay.specs.Scripts.{RunsSteps, RunsFront, StopsAt}
use Rattle.hm_replay.specs.Steps.{Terms, Answers, Steps, Fronts, base_of}
use Rattle.hm_replay.specs.Uses.{Own}

-- what a script is run on
abbrev pub terms_of : HeapView → PassView → Terms
terms_of h p = record { config = h.config; caller = p.caller; round = p.round; thread = p.thread }

-- the own entries of the turn at each index
abbrev pub mine_of : List Known → Own
mine_of ts index = slice_index_or (map (λ (t : Known). t.knows.mine) ts) index []

-- the own entries grew by what this uses up
pub record Gains (ts us : List Known) (Is : Own → Own → Type 0) : Type 0 where
  pub own : Own
  pub mine : (index : ℕ) → mine_of us index ≡ mine_of ts index ++ own index
  pub is : (left : Own) → Is (λ index. own index ++ left index) left

-- a call of this step by one of these plans had this answer
abbrev pub GainsAnswer : (Plan → Type 0) → PassView → PassView → ℕ → Answer → Type 0
GainsAnswer IsPlan p q number a = Gains p.turns q.turns (Answers IsPlan (λ part. who_of p number part) a)

-- a step had this result
abbrev pub GainsResult : HeapView → PassView → PassView → ℕ → Names → StepView → StepResult → Type 0
GainsResult h p q number names step r = Gains p.turns q.turns (Steps (terms_of h p) number step (base_of names step) r)

-- steps had these results, and the names at the end
abbrev pub GainsResults : HeapView → PassView → PassView → Names → List StepView → List StepResult → Names → Type 0
GainsResults h p q names steps rs last = Gains p.turns q.turns (RunsSteps (terms_of h p) 1 names steps rs last)

-- ---- for want of memory
-- the first parts of a call of this step by one of these plans were made
abbrev pub GainsFront : (Plan → Type 0) → PassView → PassView → ℕ → Type 0
GainsFront IsPlan p q number = Gains p.turns q.turns (Fronts IsPlan (λ part. who_of p number part))

-- a step was not begun, or not run to its end
abbrev pub GainsStop : HeapView → PassView → PassView → ℕ → Names → StepView → Type 0
GainsStop h p q number names step = Gains p.turns q.turns (StopsAt (terms_of h p) number names (step ∷ []))

-- the first steps were run, and left these names
abbrev pub GainsFrontOf : HeapView → PassView → PassView → Names → List StepView → Names → Type 0
GainsFrontOf h p q names steps last = Gains p.turns q.turns (RunsFront (terms_of h p) names steps last)

-- ---- what calls leave of a turn
pub record Grew (t u : Known) : Type 0 where
  pub lock : u.lock ≡ t.lock
  pub same : u.knows ≡ record t.knows { seen = u.knows.seen; mine = u.knows.mine; lost = u.knows.lost }
  pub begins : StartsWith u.knows.seen t.knows.seen

pub record AllGrew (ts us : List Known) : Type 0 where
  pub as_many : length us ≡ length ts
  pub each : (index : ℕ) (t : Known) → Grew (slice_index_or ts index t) (slice_index_or us index t)

-- pass p is pass q some calls later: only its turns are others, they are of these locks, and what they know has grown
pub record WentOn (locks : List Lock) (p q : PassView) : Type 0 where
  pub same : q ≡ record p { turns = q.turns }
  pub of : AreOf locks q.turns
  pub grew : AllGrew p.turns q.turns

-- ---- a call
-- a call of the step with this number, by one of these plans, had this answer or, for want of memory, some parts alone
pub record HasCalled (h : HeapView) (IsPlan : Plan → Type 0) (p q : PassView) (number : ℕ)
    (answer : Result Answer NoMemory) : Type 0 where
  pub run : WentOn h.locks p q
  pub gains : IfOk answer (GainsAnswer IsPlan p q number)
  pub stops : OnErr answer (GainsFront IsPlan p q number)
  pub reach : IfOk answer AnswerInReach

-- the turn was not free
abbrev pub is_busy : Answer → Bool
is_busy answer.Busy = true
is_busy a = false
