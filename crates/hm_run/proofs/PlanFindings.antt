-- A plan's answer is a finding exactly where a reply was one, unless it is the step's own.
use Rattle.std.proofs.Common.{◌≡◌, ℕ, ◌*◌, ◌^◌, ◌==◌, min, Bool, true, false, Option, Some, None, refl, sym, subst, true≢false}
use Rattle.std.proofs.lemmas.Bool.{cases_lt, cond_both}
use mathlib.Core.Logic.{inl, inr}
use Rattle.hm_model.specs.declared.entry.Call.{Call}
use Rattle.hm_model.specs.declared.entry.Call.TheVariants.{GiveBack, Measure, Fetch}
use Rattle.hm_model.specs.declared.entry.Reply.{Reply}
use Rattle.hm_model.specs.declared.entry.Reply.TheVariants.{Given, Freed, Usable, Bytes, Filled}
use Rattle.hm_report.specs.Findings.{is_finding_reply, is_finding_answer}
use Rattle.hm_sizes.specs.declared.class.Kind.{Kind}
use Rattle.hm_sizes.specs.declared.class.Kind.TheVariants.{Small, Large, TooLarge}
use Rattle.hm_sizes.specs.declared.config.Config.{Config}
use Rattle.hm_trace.specs.Views.{StepView, Malloc, Calloc, Aligned, Realloc, Free, Sfree, Write, Read, Size}
use Rattle.hm_heap.specs.Calls.{IsMallocPlan, allot_plan, aligned_plan, at_home, freed, freeing, filled, fetched, copying, allotted, measured, moving_plan, replied, resize_plan, index_for, home_index, keeps}
use Rattle.hm_heap.specs.Plans.{Plan, Done, Part}
use Rattle.hm_replay.specs.Steps.{IsStepPlan}
use Rattle.hm_run.specs.Findings.{is_own_answer}

-- the plan is done, with a finding
abbrev pub Stops : Plan → Type 0
Stops (Done a) = is_finding_answer a ≡ true
Stops (Part index call next) = ⊥

-- the first reply that is a finding ends the plan with a finding; where none is, the answer is at most the step's own
abbrev pub Tells : Plan → Type 0
Tells (Done a) = is_finding_answer a ≡ is_own_answer a
Tells (Part index call next) =
    (reply : Reply) → (is_finding_reply reply ≡ true → Stops (next reply)) × (is_finding_reply reply ≡ false → Tells (next reply))

-- so goes a plan on from this reply
abbrev Next : Reply → Plan → Type 0
Next reply plan = (is_finding_reply reply ≡ true → Stops plan) × (is_finding_reply reply ≡ false → Tells plan)

replied_next : (reply : Reply) → Next reply (replied reply)
replied_next reply = (λ found. found, λ none. none)

allot_tells : (c : Config) (thread asked align : ℕ) (kind : Kind) → Tells (allot_plan c thread asked align kind)
allot_tells c thread asked align TooLarge = refl
allot_tells c thread asked align (Small class) = λ reply. replied_next reply
allot_tells c thread asked align (Large size) = λ reply. replied_next reply

home_tells : (o : Option ℕ) (call : Call) → Tells (at_home o call)
home_tells None call = refl
home_tells (Some index) call = λ reply. replied_next reply

freed_next : (moved : _) (reply : Reply) → Next reply (freed moved reply)
freed_next moved Freed = (λ found. absurd (true≢false (sym found)), λ none. refl)
freed_next moved _ = (λ found. refl, λ none. refl)

freeing_tells : (moved : _) → Tells (freeing moved)
freeing_tells moved = λ reply. freed_next moved reply

filled_next : (moved : _) (reply : Reply) → Next reply (filled moved reply)
filled_next moved Filled = (λ found. absurd (true≢false (sym found)), λ none. freeing_tells moved)
filled_next moved _ = (λ found. refl, λ none. refl)

fetched_next : (moved : _) (reply : Reply) → Next reply (fetched moved reply)
fetched_next moved (Bytes runs) = (λ found. absurd (true≢false (sym found)), λ none reply. filled_next moved reply)
fetched_next moved _ = (λ found. refl, λ none. refl)

copying_tells : (moved : _) (count : ℕ) → Tells (copying moved count)
copying_tells moved count =
    cond_both (count == 0) _ _ Tells (λ none. freeing_tells moved) (λ some. λ reply. fetched_next moved reply)

allotted_next : (source : _) (count : ℕ) (reply : Reply) → Next reply (allotted source count reply)
allotted_next source count (Given new usable) = (
  λ found. absurd (true≢false (sym found)),
  λ none. copying_tells (record { source = source; new = new; usable = usable }) count,
)
allotted_next source count _ = (λ found. found, λ none. none)

measured_next : (source : _) (stays : ℕ → Bool) (reply : Reply) → Next reply (measured source stays reply)
measured_next source stays (Usable old) = (
  λ found. absurd (true≢false (sym found)),
  λ none. cond_both (stays old) _ _ Tells (λ kept. refl) (λ moves. λ reply. allotted_next source (min old source.asked) reply),
)
measured_next source stays _ = (λ found. found, λ none. none)

moving_tells : (c : Config) (index a asked : ℕ) (kind : Kind) (o : Option ℕ) → Tells (moving_plan c index a asked kind o)
moving_tells c index a asked kind None = refl
moving_tells c index a asked kind (Some home) =
    λ reply. measured_next (record { home = home; index = index; addr = a; asked = asked }) (keeps c home kind) reply

resize_tells : (c : Config) (thread a asked : ℕ) (kind : Kind) (o : Option ℕ) → Tells (resize_plan c thread a asked kind o)
resize_tells c thread a asked kind None = refl
resize_tells c thread a asked kind (Some index) =
    cond_both (a == 0) _ _ Tells (λ null. allot_tells c thread asked 1 kind) (λ some. moving_tells c index a asked kind (home_index c a))

aligned_tells : (c : Config) (thread asked align : ℕ) (o : Option Kind) → Tells (aligned_plan c thread asked align o)
aligned_tells c thread asked align None = refl
aligned_tells c thread asked align (Some kind) = allot_tells c thread asked align kind

malloc_tells : (c : Config) (thread asked : ℕ) (plan : Plan) → IsMallocPlan c thread asked plan → Tells plan
malloc_tells c thread asked plan is = subst Tells (sym is.is) (allot_tells c thread asked 1 is.kind)

pub step_tells : (c : Config) (thread : ℕ) (step : StepView) (a : ℕ) (plan : Plan) → IsStepPlan c thread step a plan → Tells plan
step_tells c thread (Malloc name size) a plan is = malloc_tells c thread size plan is
step_tells c thread (Calloc name count size) a plan is = elim (cases_lt (count * size) (2 ^ 64)) [
  | inl fits ↦ malloc_tells c thread (count * size) plan (is.fits fits)
  | inr over ↦ subst Tells (sym (is.overflow over)) refl
]
step_tells c thread (Aligned name align size) a plan is = subst Tells (sym is.is) (aligned_tells c thread size align is.kind)
step_tells c thread (Realloc name place size) a plan is =
    subst Tells (sym is.is) (resize_tells c thread a size is.kind (index_for c thread is.kind))
step_tells c thread (Free place) a plan is =
    subst Tells (sym is) (cond_both (a == 0) _ _ Tells (λ null. refl) (λ some. home_tells (home_index c a) (GiveBack a None)))
step_tells c thread (Sfree place size) a plan is =
    subst Tells (sym is) (cond_both (a == 0) _ _ Tells (λ null. refl) (λ some. home_tells (home_index c a) (GiveBack a (Some size))))
step_tells c thread (Write place len byte) a plan is = subst Tells (sym is) (home_tells (home_index c a) _)
step_tells c thread (Read place len) a plan is = subst Tells (sym is) (home_tells (home_index c a) (Fetch a len))
step_tells c thread (Size place) a plan is =
    subst Tells (sym is) (cond_both (a == 0) _ _ Tells (λ null. refl) (λ some. home_tells (home_index c a) (Measure a)))
