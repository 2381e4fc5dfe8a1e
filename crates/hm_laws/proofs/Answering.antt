-- The answer of each step is as the table says, by its calls.
use Rattle.std.proofs.Common.{◌≡◌, ◌≢◌, inl, inr, ⊎_elim, ℕ, ◌*◌, ◌^◌, ◌<◌, ◌==◌, Bool, true, false, cond, List, [], ◌∷◌, Option, Some, None, sym, subst, refl}
use Rattle.std.specs.Prelude.{min}
use Rattle.std.proofs.lemmas.Bool.{cases_lt}
use Rattle.hm_model.specs.declared.answer.Answer.{Answer}
use Rattle.hm_model.specs.declared.answer.Answer.TheVariants.{Reply as Replied, Overflow, BadAlignment, TooLarge, Outside, Nothing}
use Rattle.hm_model.specs.declared.entry.Call.{Call}
use Rattle.hm_model.specs.declared.entry.Call.TheVariants.{Allot, GiveBack, Measure, Fetch, Fill}
use Rattle.hm_model.specs.declared.entry.Reply.TheVariants.{Usable}
use Rattle.hm_model.specs.Runs.{same_runs}
use Rattle.hm_model.proofs.Lists.{eq_same, eq_other}
use Rattle.hm_sizes.specs.declared.class.Kind.{Kind}
use Rattle.hm_sizes.specs.declared.class.Kind.TheVariants.{Small, Large, TooLarge as AsksTooLarge}
use Rattle.hm_sizes.specs.declared.config.Config.{Config}
use Rattle.hm_sizes.specs.declared.home.Home.{Home}
use Rattle.hm_sizes.specs.declared.home.Home.TheVariants as home
use Rattle.hm_sizes.specs.Aligned.{IsAlignedKindOf, AlignedGives}
use Rattle.hm_sizes.specs.Homes.{home_of}
use Rattle.hm_sizes.specs.Sizes.{IsKindOf}
use Rattle.hm_trace.specs.Views.{PlaceView, StepView, Malloc, Calloc, Aligned, Realloc, Free, Sfree, Write, Read, Size}
use Rattle.hm_heap.specs.Calls.{allot_plan, aligned_plan, at_home, class_index, index_of_home, large_index, replied, IsMallocPlan}
use Rattle.hm_heap.specs.Plans.{Plan, Done, Part}
use Rattle.hm_replay.specs.Steps.{IsStepPlan}
use Rattle.hm_laws.specs.Answers.{Calls, IsCallOf, AnswersAs}
use Rattle.hm_laws.specs.Steps.{Added, calls_in}
use Rattle.hm_laws.proofs.Adding.{Runs}
use Rattle.hm_laws.proofs.Moving.{Ends}
use Rattle.hm_laws.proofs.Resizing.{one_part, Reallocated, reallocated}

-- ---- plans of no call, or of one
module _ (c : Config) (step : StepView) (a : ℕ) where
  -- the plan is done at once
  done_as : (y : Answer) (added : List Added) (x : Answer) → AnswersAs c step a [] y → Runs (Done y) added x → AnswersAs c step a (calls_in added) x
  done_as y [] x of r = subst (λ (z : Answer). AnswersAs c step a [] z) (sym r) of
  done_as y (z ∷ zs) x of r = absurd r

  part_as : (index : ℕ) (call : Call) (added : List Added) (x : Answer) → IsCallOf step a call → Runs (Part index call replied) added x → AnswersAs c step a (calls_in added) x
  part_as index call added x of r =
      let one = one_part index call added x r in
      subst (λ (z : Answer). AnswersAs c step a (calls_in added) z) (sym one.1) (inr (inl (call, of, one.2)))

  home_as : (call : Call) (h : Home) (added : List Added) (x : Answer) → (h ≡ home.Outside → AnswersAs c step a [] Outside) → IsCallOf step a call
      → Runs (at_home (index_of_home c h) call) added x → AnswersAs c step a (calls_in added) x
  home_as call home.Outside added x out of r = done_as Outside added x (out refl) r
  home_as call (home.Class region) added x out of r = part_as region.0 call added x of r
  home_as call home.Large added x out of r = part_as (large_index c) call added x of r

  -- for address 0 the plan is done at once
  null_as : (y : Answer) (call : Call) (b : Bool) (added : List Added) (x : Answer) → (a == 0) ≡ b → (a ≡ 0 → AnswersAs c step a [] y)
      → (a ≢ 0 → home_of c a ≡ home.Outside → AnswersAs c step a [] Outside) → IsCallOf step a call
      → Runs (cond b (Done y) (at_home (index_of_home c (home_of c a)) call)) added x → AnswersAs c step a (calls_in added) x
  null_as y call true added x is null out of r = done_as y added x (null (eq_same a 0 is)) r
  null_as y call false added x is null out of r = home_as call (home_of c a) added x (out (eq_other a 0 is)) of r

  allot_as : (thread asked align : ℕ) (kind : Kind) (added : List Added) (x : Answer) → (kind ≡ AsksTooLarge → AnswersAs c step a [] TooLarge)
      → IsCallOf step a (Allot asked 1) → IsCallOf step a (Allot asked align) → Runs (allot_plan c thread asked align kind) added x → AnswersAs c step a (calls_in added) x
  allot_as thread asked align AsksTooLarge added x much one other r = done_as TooLarge added x (much refl) r
  allot_as thread asked align (Small class) added x much one other r = part_as (class_index c thread class.0) (Allot asked 1) added x one r
  allot_as thread asked align (Large size) added x much one other r = part_as (large_index c) (Allot asked align) added x other r

  malloc_as : (thread asked : ℕ) (plan : Plan) (added : List Added) (x : Answer) → (2 ^ 30 < asked → AnswersAs c step a [] TooLarge)
      → IsCallOf step a (Allot asked 1) → IsMallocPlan c thread asked plan → Runs plan added x → AnswersAs c step a (calls_in added) x
  malloc_as thread asked plan added x much one is r =
      allot_as thread asked 1 is.kind added x (λ e. much (subst (λ (k : Kind). IsKindOf asked k) e is.kind_is)) one one
      (subst (λ (q : Plan). Runs q added x) is.is r)

-- ---- a realloc
resize_as : (c : Config) (name : List ℕ) (place : PlaceView) (size a : ℕ) (calls : Calls) (x : Answer) → Reallocated c a size calls x → AnswersAs c (Realloc name place size) a calls x
resize_as c name place size a calls x (inl much) = subst (λ (z : Answer). AnswersAs c (Realloc name place size) a calls z) (sym much.0) (much.2, much.1)
resize_as c name place size a calls x (inr (inl null)) =
    subst (λ (z : Answer). AnswersAs c (Realloc name place size) a calls z) (sym null.1.1) (inr (inl (Allot size 1, (null.0, refl), null.1.2)))
resize_as c name place size a calls x (inr (inr (inl out))) =
    subst (λ (z : Answer). AnswersAs c (Realloc name place size) a calls z) (sym out.0) (out.4, out.1, out.2, out.3)
resize_as c name place size a calls x (inr (inr (inr (ne, inl kept)))) =
    subst (λ (z : Answer). AnswersAs c (Realloc name place size) a calls z) (sym kept.1) (ne, (refl, kept.2))
resize_as c name place size a calls x (inr (inr (inr (ne, inr (inl unmeasured))))) =
    subst (λ (z : Answer). AnswersAs c (Realloc name place size) a calls z) (sym unmeasured.1) (inr (inr (ne, inr (inl (unmeasured.2, unmeasured.3)))))
resize_as c name place size a calls x (inr (inr (inr (ne, inr (inr (inl ungiven)))))) =
    subst (λ (z : Answer). AnswersAs c (Realloc name place size) a calls z) (sym ungiven.1) (inr (inr (ne, inr (inr (ungiven.2, ungiven.3, ungiven.4)))))
resize_as c name place size a calls x (inr (inr (inr (ne, inr (inr (inr m)))))) = by m.5
  where
    by : Ends a m.1 m.2 (min m.0 size) m.3 x → AnswersAs c (Realloc name place size) a calls x
    by (inl whole) =
        subst (λ (z : Answer). AnswersAs c (Realloc name place size) a calls z) (sym whole.0)
        (inr (inr (ne, inl (m.1, m.2, refl, record { old = m.0; rest = m.3; calls_are = m.4; goes_on = whole.1 }))))
    by (inr half) =
        subst (λ (z : Answer). AnswersAs c (Realloc name place size) a calls z) (sym half.1)
        (ne, record { old = m.0; rest = m.3; calls_are = m.4; goes_on = half.2 })

-- ---- any step
pub answered : (c : Config) (thread : ℕ) (step : StepView) (a : ℕ) (plan : Plan) (added : List Added) (x : Answer) → IsStepPlan c thread step a plan → Runs plan added x
    → AnswersAs c step a (calls_in added) x
answered c thread (Malloc name size) a plan added x is r = malloc_as c (Malloc name size) a thread size plan added x (λ much. (refl, much)) refl is r
answered c thread (Calloc name count size) a plan added x is r = ⊎_elim
    (λ lt. malloc_as c (Calloc name count size) a thread (count * size) plan added x (λ much. (refl, lt, much)) refl (is.fits lt) r)
    (λ ge. done_as c (Calloc name count size) a Overflow added x (refl, ge) (subst (λ (q : Plan). Runs q added x) (is.overflow ge) r))
    (cases_lt (count * size) (2 ^ 64))
answered c thread (Aligned name align size) a plan added x is r = by is.kind is.kind_is (subst (λ (q : Plan). Runs q added x) is.is r)
  where
    too_large : IsAlignedKindOf size align AsksTooLarge → 2 ^ 30 < size
    too_large k = ⊎_elim (λ lt. k.wide lt) (λ le. k.narrow le) (cases_lt 16 align)

    by : (kind : Option Kind) → AlignedGives size align kind → Runs (aligned_plan c thread size align kind) added x → AnswersAs c (Aligned name align size) a (calls_in added) x
    by None none r = done_as c (Aligned name align size) a BadAlignment added x (refl, none) r
    by (Some kind) some r =
        allot_as c (Aligned name align size) a thread size align kind added x
        (λ e. (refl, some.0, too_large (subst (λ (k : Kind). IsAlignedKindOf size align k) e some.1))) (inl refl) (inr refl) r
answered c thread (Realloc name place size) a plan added x is r = resize_as c name place size a (calls_in added) x (reallocated c thread a size plan added x is r)
answered c thread (Free place) a plan added x is r =
    null_as c (Free place) a Nothing (GiveBack a None) (a == 0) added x refl (λ null. (refl, null)) (λ ne out. (refl, ne, out)) refl (subst (λ (q : Plan). Runs q added x) is r)
answered c thread (Sfree place size) a plan added x is r =
    null_as c (Sfree place size) a Nothing (GiveBack a (Some size)) (a == 0) added x refl (λ null. (refl, null)) (λ ne out. (refl, ne, out)) refl (subst (λ (q : Plan). Runs q added x) is r)
answered c thread (Write place len byte) a plan added x is r =
    home_as c (Write place len byte) a (Fill a (same_runs byte len)) (home_of c a) added x (λ out. (refl, out)) refl (subst (λ (q : Plan). Runs q added x) is r)
answered c thread (Read place len) a plan added x is r =
    home_as c (Read place len) a (Fetch a len) (home_of c a) added x (λ out. (refl, out)) refl (subst (λ (q : Plan). Runs q added x) is r)
answered c thread (Size place) a plan added x is r =
    null_as c (Size place) a (Replied (Usable 0)) (Measure a) (a == 0) added x refl (λ null. inl (refl, null, refl)) (λ ne out. (refl, ne, out)) refl (subst (λ (q : Plan). Runs q added x) is r)
