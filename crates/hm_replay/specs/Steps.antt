-- One step of a script: where it refers to, its plan, and the name that it sets.
use Rattle.std.specs.Prelude.{◌≡◌, ℕ, suc, ◌+◌, ◌-◌, List, Option, Some, None, ℤ, pos, negsuc}
use Rattle.std.specs.Option.{option_map}
use Rattle.hm_model.specs.declared.answer.Answer.{Answer}
use Rattle.hm_model.specs.declared.answer.Answer.TheVariants as answer
use Rattle.hm_model.specs.declared.entry.Reply.TheVariants.{Given}
use Rattle.hm_model.specs.declared.entry.Who.{Who}
use Rattle.hm_model.specs.Runs.{same_runs}
use Rattle.hm_report.specs.declared.results.StepResult.{StepResult}
use Rattle.hm_sizes.specs.declared.config.Config.{Config}
use Rattle.hm_trace.specs.Views.{PlaceView, Null, At, Named, StepView, Malloc, Calloc, Aligned, Realloc, Free, Sfree, Write, Read, Size}
use Rattle.hm_heap.specs.Calls.{IsMallocPlan, IsCallocPlan, IsAlignedPlan, IsReallocPlan, free_plan, usable_plan, read_plan, write_plan}
use Rattle.hm_heap.specs.Plans.{Plan}
use Rattle.hm_replay.specs.Names.{Names, with_name}
use Rattle.hm_replay.specs.Uses.{Own, Stay, Uses, UsesFront}

-- ---- where a step refers to
-- an address and an offset
abbrev pub with_offset : ℕ → ℤ → ℕ
with_offset a (pos n) = a + n
with_offset a (negsuc n) = a - suc n

-- the address of a place: none where its name is not set
abbrev pub referred : Names → PlaceView → Option ℕ
referred names Null = Some 0
referred names (At a) = Some a
referred names (Named name offset) = option_map (λ a. with_offset a offset) (names name)

-- the address that a step refers to, and 0 where it refers to none
abbrev pub base_of : Names → StepView → Option ℕ
base_of names (Malloc name size) = Some 0
base_of names (Calloc name count size) = Some 0
base_of names (Aligned name align size) = Some 0
base_of names (Realloc name place size) = referred names place
base_of names (Free place) = referred names place
base_of names (Sfree place size) = referred names place
base_of names (Write place len byte) = referred names place
base_of names (Read place len) = referred names place
base_of names (Size place) = referred names place

-- ---- the plan of a step of this thread, at the address that it refers to
abbrev pub IsStepPlan : Config → ℕ → StepView → ℕ → Plan → Type 0
IsStepPlan c thread (Malloc name size) a plan = IsMallocPlan c thread size plan
IsStepPlan c thread (Calloc name count size) a plan = IsCallocPlan c thread count size plan
IsStepPlan c thread (Aligned name align size) a plan = IsAlignedPlan c thread align size plan
IsStepPlan c thread (Realloc name place size) a plan = IsReallocPlan c thread a size plan
IsStepPlan c thread (Free place) a plan = plan ≡ free_plan c a None
IsStepPlan c thread (Sfree place size) a plan = plan ≡ free_plan c a (Some size)
IsStepPlan c thread (Write place len byte) a plan = plan ≡ write_plan c a (same_runs byte len)
IsStepPlan c thread (Read place len) a plan = plan ≡ read_plan c a len
IsStepPlan c thread (Size place) a plan = plan ≡ usable_plan c a

-- ---- the name that a step sets
-- the address that an answer gives
abbrev pub given_by : Answer → Option ℕ
given_by (answer.Reply (Given a usable)) = Some a
given_by other = None

-- the address of the block that a reallocation leaves
abbrev pub new_address_by : Answer → Option ℕ
new_address_by (answer.Reply (Given a usable)) = Some a
new_address_by (answer.Kept a usable) = Some a
new_address_by (answer.HalfMoved a usable cause) = Some a
new_address_by other = None

-- a name is set where there is an address
abbrev pub with_some : Names → List ℕ → Option ℕ → Names
with_some names name None = names
with_some names name (Some a) = with_name names name (Some a)

-- an allotment sets its name to the given address, and unsets it where no block was given;
-- a reallocation sets it where it leaves a block
abbrev pub named : Names → StepView → Answer → Names
named names (Malloc name size) a = with_name names name (given_by a)
named names (Calloc name count size) a = with_name names name (given_by a)
named names (Aligned name align size) a = with_name names name (given_by a)
named names (Realloc name place size) a = with_some names name (new_address_by a)
named names step a = names

-- a skipped step leaves all names
abbrev pub names_after : Names → StepView → Option Answer → Names
names_after names step None = names
names_after names step (Some a) = named names step a

-- ---- the run of a step
-- who runs the script, and on which configuration
pub record Terms : Type 0 where
  pub config : Config
  pub caller : ℕ
  pub round : ℕ
  pub thread : ℕ

abbrev pub who_at : Terms → ℕ → ℕ → Who
who_at t step part = record { caller = t.caller; round = t.round; thread = t.thread; step = step; part = part }

-- a call by one of these plans has this answer
pub record Answers (IsPlan : Plan → Type 0) (who : ℕ → Who) (a : Answer) (xs ys : Own) : Type 0 where
  pub plan : Plan
  pub is : IsPlan plan
  pub uses : Uses who 1 plan a xs ys

-- the result is the address and the answer of the call
pub record Calls (IsPlan : Plan → Type 0) (who : ℕ → Who) (base : ℕ) (r : StepResult) (xs ys : Own) : Type 0 where
  pub answer : Answer
  pub result : r ≡ record { base = base; answer = Some answer }
  pub answers : Answers IsPlan who answer xs ys

abbrev pub skipped : StepResult
skipped = record { base = 0; answer = None }

-- the step with this number and its result: where its name is not set it is skipped, and takes nothing
abbrev pub Steps : Terms → ℕ → StepView → Option ℕ → StepResult → Own → Own → Type 0
Steps t number step None r xs ys = (r ≡ skipped) × Stay xs ys
Steps t number step (Some base) r xs ys =
    Calls (IsStepPlan t.config t.thread step base) (λ part. who_at t number part) base r xs ys

-- ---- a step that ends for want of memory
-- of a call by one of these plans the first parts were made, however many
pub record Fronts (IsPlan : Plan → Type 0) (who : ℕ → Who) (xs ys : Own) : Type 0 where
  pub plan : Plan
  pub is : IsPlan plan
  pub uses : UsesFront who 1 plan xs ys

-- a step that is skipped does not end so
abbrev pub BreaksOff : Terms → ℕ → StepView → Option ℕ → Own → Own → Type 0
BreaksOff t number step None xs ys = ⊥
BreaksOff t number step (Some base) xs ys =
    Fronts (IsStepPlan t.config t.thread step base) (λ part. who_at t number part) xs ys
