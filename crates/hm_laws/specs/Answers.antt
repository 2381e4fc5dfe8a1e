-- What each answer of a step comes from: the calls that the step made, in their order, and what was replied to each.
use Rattle.std.specs.Prelude.{◌≡◌, ◌≢◌, ◌⊎◌, ◌↔◌, ℕ, ◌+◌, ◌*◌, ◌^◌, ◌<◌, ◌≤◌, false, List, [], ◌∷◌, Some, None}
use Rattle.hm_outside.specs.declared.pages.Pages as pages
use Rattle.hm_model.specs.declared.answer.Answer.{Answer}
use Rattle.hm_model.specs.declared.answer.Answer.TheVariants.{Reply as Replied, Overflow, BadAlignment, TooLarge, Outside, Busy, HalfMoved, Kept, Nothing}
use Rattle.hm_model.specs.declared.entry.Call.{Call}
use Rattle.hm_model.specs.declared.entry.Call.TheVariants.{Allot, GiveBack, Measure, Fetch, Fill}
use Rattle.hm_model.specs.declared.entry.Reply.{Reply}
use Rattle.hm_model.specs.declared.entry.Reply.TheVariants.{Given, Usable}
use Rattle.hm_model.specs.Runs.{same_runs}
use Rattle.hm_report.specs.declared.results.Results.{Results}
use Rattle.hm_sizes.specs.declared.config.Config.{Config}
use Rattle.hm_sizes.specs.declared.home.Home.TheVariants as home
use Rattle.hm_sizes.specs.Aligned.{IsAlignment}
use Rattle.hm_sizes.specs.Homes.{home_of}
use Rattle.hm_trace.specs.Views.{StepView, Malloc, Calloc, Aligned, Realloc, Free, Sfree, Write, Read, Size, TraceView}
use Rattle.hm_heap.specs.declared.close.Closed.{Closed}
use Rattle.hm_run.specs.declared.words.Options.{Options}
use Rattle.hm_run.specs.Replayed.{IsReplayed}
use Rattle.hm_run.specs.Words.{config_of}
use Rattle.hm_laws.specs.Moves.{IsMoved, IsHalfMoved}
use Rattle.hm_stats.specs.Tallies.{is_given}
use Rattle.hm_laws.specs.Replies.{is_usable}
use Rattle.hm_laws.specs.Steps.{Added, AreOfStep, IsStepOf, calls_in}

-- calls of regions, each with its reply, in their order
abbrev pub Calls : Type 0
Calls = List (Call × Reply)

-- ---- by the step's words alone: no region was asked
-- the product of its count and its size is too large for a number
abbrev pub Overflows : StepView → Calls → Type 0
Overflows (Calloc name count size) calls = (calls ≡ []) × (2 ^ 64 ≤ count * size)
Overflows step calls = ⊥

-- its alignment is none
abbrev pub IsUnaligned : StepView → Calls → Type 0
IsUnaligned (Aligned name align size) calls = (calls ≡ []) × (IsAlignment align → ⊥)
IsUnaligned step calls = ⊥

-- it asks for more than a block may have
abbrev pub AsksTooMuch : StepView → Calls → Type 0
AsksTooMuch (Malloc name size) calls = (calls ≡ []) × (2 ^ 30 < size)
AsksTooMuch (Calloc name count size) calls = (calls ≡ []) × (count * size < 2 ^ 64) × (2 ^ 30 < count * size)
AsksTooMuch (Aligned name align size) calls = (calls ≡ []) × IsAlignment align × (2 ^ 30 < size)
AsksTooMuch (Realloc name place size) calls = (calls ≡ []) × (2 ^ 30 < size)
AsksTooMuch step calls = ⊥

-- its address a is in no region
abbrev pub RefersOutside : Config → StepView → ℕ → Calls → Type 0
RefersOutside c (Realloc name place size) a calls =
    (calls ≡ []) × (a ≢ 0) × (size ≤ 2 ^ 30) × (home_of c a ≡ home.Outside)
RefersOutside c (Free place) a calls = (calls ≡ []) × (a ≢ 0) × (home_of c a ≡ home.Outside)
RefersOutside c (Sfree place size) a calls = (calls ≡ []) × (a ≢ 0) × (home_of c a ≡ home.Outside)
RefersOutside c (Write place len byte) a calls = (calls ≡ []) × (home_of c a ≡ home.Outside)
RefersOutside c (Read place len) a calls = (calls ≡ []) × (home_of c a ≡ home.Outside)
RefersOutside c (Size place) a calls = (calls ≡ []) × (a ≢ 0) × (home_of c a ≡ home.Outside)
RefersOutside c step a calls = ⊥

-- it frees address 0, or asks for the size of it
abbrev pub FreesNull : StepView → ℕ → Calls → Type 0
FreesNull (Free place) a calls = (calls ≡ []) × (a ≡ 0)
FreesNull (Sfree place size) a calls = (calls ≡ []) × (a ≡ 0)
FreesNull step a calls = ⊥

abbrev pub SizesNull : StepView → ℕ → Calls → Reply → Type 0
SizesNull (Size place) a calls reply = (calls ≡ []) × (a ≡ 0) × (reply ≡ Usable 0)
SizesNull step a calls reply = ⊥

-- ---- by one call
-- the call of a step at the address a that makes just one; a realloc of address 0 asks for a block
abbrev pub IsCallOf : StepView → ℕ → Call → Type 0
IsCallOf (Malloc name size) a call = call ≡ Allot size 1
IsCallOf (Calloc name count size) a call = call ≡ Allot (count * size) 1
IsCallOf (Aligned name align size) a call = (call ≡ Allot size 1) ⊎ (call ≡ Allot size align)
IsCallOf (Realloc name place size) a call = (a ≡ 0) × (call ≡ Allot size 1)
IsCallOf (Free place) a call = call ≡ GiveBack a None
IsCallOf (Sfree place size) a call = call ≡ GiveBack a (Some size)
IsCallOf (Write place len byte) a call = call ≡ Fill a (same_runs byte len)
IsCallOf (Read place len) a call = call ≡ Fetch a len
IsCallOf (Size place) a call = call ≡ Measure a

abbrev pub IsOnlyCall : StepView → ℕ → Calls → Reply → Type 0
IsOnlyCall step a calls reply = (call : Call) × IsCallOf step a call × (calls ≡ (call, reply) ∷ [])

-- ---- by the calls of a realloc of a block
-- the step is one, of the block at a, and this holds of the size that it asks for
abbrev pub Resizes : StepView → ℕ → (ℕ → Type 0) → Type 0
Resizes (Realloc name place size) a Holds = (a ≢ 0) × Holds size
Resizes step a Holds = ⊥

-- it was moved, or the old block could not be measured, or no new one was given
abbrev pub IsResized : ℕ → ℕ → Calls → Reply → Type 0
IsResized a size calls reply =
    ((new : ℕ) × (usable : ℕ) × (reply ≡ Given new usable) × IsMoved a size new usable calls)
    ⊎ ((is_usable reply ≡ false) × (calls ≡ (Measure a, reply) ∷ []))
    ⊎ ((is_given reply ≡ false) × (old : ℕ) × (calls ≡ (Measure a, Usable old) ∷ (Allot size 1, reply) ∷ []))

-- ---- the table
-- what a region replied
abbrev pub IsReplied : StepView → ℕ → Calls → Reply → Type 0
IsReplied step a calls reply = SizesNull step a calls reply ⊎ IsOnlyCall step a calls reply
    ⊎ Resizes step a (λ size. IsResized a size calls reply)

-- the step, which refers to the address a, is answered so where it made these calls, which were replied to so
abbrev pub AnswersAs : Config → StepView → ℕ → Calls → Answer → Type 0
AnswersAs c step a calls Overflow = Overflows step calls
AnswersAs c step a calls BadAlignment = IsUnaligned step calls
AnswersAs c step a calls TooLarge = AsksTooMuch step calls
AnswersAs c step a calls Outside = RefersOutside c step a calls
AnswersAs c step a calls Nothing = FreesNull step a calls
AnswersAs c step a calls Busy = ⊥
AnswersAs c step a calls (Kept b usable) = Resizes step a (λ size. (b ≡ a) × (calls ≡ (Measure a, Usable usable) ∷ []))
AnswersAs c step a calls (HalfMoved new usable cause) = Resizes step a (λ size. IsHalfMoved a size new usable cause calls)
AnswersAs c step a calls (Replied reply) = IsReplied step a calls reply

-- ---- of the results of a run
-- of the calls that a step made, and of no others, comes just its answer
pub record HasCause {P : Type 0} (o : Options) (closed : Closed P) (caller number : ℕ) (step : StepView) (base : ℕ)
    (answer : Answer) : Type 0 where
  pub added : List Added
  pub of_step : AreOfStep closed.histories caller number added
  pub exact : (other : Answer) → (answer ≡ other) ↔ AnswersAs (config_of o) step base (calls_in added) other

abbrev pub AnswersHaveCauses : {P : Type 0} → pages.Ghosts P → Options → Closed P → Type 0
AnswersHaveCauses {P} meaning o closed = (trace : TraceView) (results : List Results) (scripts steps : ℕ)
    (step : StepView) (base : ℕ) (answer : Answer) → IsReplayed meaning o closed trace results
    → IsStepOf trace results scripts steps step (record { base = base; answer = Some answer })
    → HasCause o closed (scripts + 1) (steps + 1) step base answer

-- a step that was skipped made no call
abbrev pub SkippedSteps : {P : Type 0} → pages.Ghosts P → Options → Closed P → Type 0
SkippedSteps {P} meaning o closed = (trace : TraceView) (results : List Results) (scripts steps : ℕ)
    (step : StepView) (base : ℕ) → IsReplayed meaning o closed trace results
    → IsStepOf trace results scripts steps step (record { base = base; answer = None })
    → AreOfStep closed.histories (scripts + 1) (steps + 1) []
