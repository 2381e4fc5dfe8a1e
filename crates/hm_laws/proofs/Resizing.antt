-- What a realloc comes to, by its plan.
use Rattle.std.proofs.Common.{◌≡◌, ◌≢◌, ◌⊎◌, inl, inr, ⊎_elim, ℕ, ◌^◌, ◌<◌, ◌≤◌, ◌==◌, Bool, true, false, cond, List, [], ◌∷◌, Some, subst, refl, arith}
use Rattle.std.proofs.lemmas.Bool.{cases_lt}
use Rattle.std.proofs.lemmas.Bool.Decides.{nat_tests}
use Rattle.std.proofs.lemmas.Option.{none-some}
use Rattle.hm_model.specs.declared.answer.Answer.{Answer}
use Rattle.hm_model.specs.declared.answer.Answer.TheVariants.{Reply as Replied, TooLarge as AskedTooMuch, Outside as LiesOutside}
use Rattle.hm_model.specs.declared.entry.Call.{Call}
use Rattle.hm_model.specs.declared.entry.Call.TheVariants.{Allot}
use Rattle.hm_model.specs.declared.entry.Reply.{Reply}
use Rattle.hm_model.proofs.Lists.{eq_same, eq_other}
use Rattle.hm_sizes.specs.declared.class.Kind.{Kind}
use Rattle.hm_sizes.specs.declared.class.Kind.TheVariants.{Small, Large, TooLarge}
use Rattle.hm_sizes.specs.declared.config.Config.{Config}
use Rattle.hm_sizes.specs.declared.home.Home.{Home}
use Rattle.hm_sizes.specs.declared.home.Home.TheVariants as home
use Rattle.hm_sizes.specs.Homes.{home_of}
use Rattle.hm_sizes.specs.Sizes.{raised, IsKindOf}
use Rattle.hm_heap.specs.Calls.{allot_plan, moving_plan, resize_plan, index_for, index_of_home, keeps, replied, class_index, large_index, IsReallocPlan}
use Rattle.hm_heap.specs.Plans.{Plan, Part}
use Rattle.hm_laws.specs.Steps.{Added, calls_in}
use Rattle.hm_laws.proofs.Adding.{Runs}
use Rattle.hm_laws.proofs.Moving.{Resized, resized}

abbrev Calls : Type 0
Calls = List (Call × Reply)

-- a plan of one part: its reply is the answer
abbrev pub OnePart : Call → Calls → Answer → Type 0
OnePart call calls x = (reply : Reply) × (x ≡ Replied reply) × (calls ≡ (call, reply) ∷ [])

pub one_part : (index : ℕ) (call : Call) (added : List Added) (x : Answer) → Runs (Part index call replied) added x → OnePart call (calls_in added) x
one_part index call [] x h = absurd h
one_part index call (y ∷ []) x h = (y.entry.reply, h.2, λ i. (h.1 i, y.entry.reply) ∷ [])
one_part index call (y ∷ z ∷ zs) x h = absurd h.2

-- a request that a class serves, or the large region, is not too large
raised_high : (asked : ℕ) → 2 ^ 30 < asked → 131072 < raised asked
raised_high asked lt = grind (arith, nat_tests)

pub few_of_kind : (asked : ℕ) (kind : Kind) (index : ℕ) (c : Config) (thread : ℕ) → IsKindOf asked kind → index_for c thread kind ≡ Some index → asked ≤ 2 ^ 30
few_of_kind asked (Small class) index c thread of is = ⊎_elim (λ lt. absurd (omega (arith, of.0, raised_high asked lt))) (λ le. le) (cases_lt (2 ^ 30) asked)
few_of_kind asked (Large size) index c thread of is = of.1
few_of_kind asked TooLarge index c thread of is = absurd (none-some index is)

-- too large; a block was asked for; the address is in no region; or the block of that address was resized
abbrev pub Reallocated : Config → ℕ → ℕ → Calls → Answer → Type 0
Reallocated c a asked calls x =
    ((x ≡ AskedTooMuch) × (2 ^ 30 < asked) × (calls ≡ []))
    ⊎ ((a ≡ 0) × OnePart (Allot asked 1) calls x)
    ⊎ ((x ≡ LiesOutside) × (a ≢ 0) × (asked ≤ 2 ^ 30) × (home_of c a ≡ home.Outside) × (calls ≡ []))
    ⊎ ((a ≢ 0) × Resized a asked calls x)

module _ (c : Config) (thread a asked : ℕ) where
  moving : (kind : Kind) (index : ℕ) (added : List Added) (x : Answer) (h : Home) → asked ≤ 2 ^ 30 → a ≢ 0 → home_of c a ≡ h
      → Runs (moving_plan c index a asked kind (index_of_home c h)) added x → Reallocated c a asked (calls_in added) x
  moving kind index [] x home.Outside few ne is r = inr (inr (inl (r, ne, few, is, refl)))
  moving kind index (y ∷ ys) x home.Outside few ne is r = absurd r
  moving kind index added x (home.Class region) few ne is r =
      inr (inr (inr (ne, resized region.0 index a asked (keeps c region.0 kind) added x r)))
  moving kind index added x home.Large few ne is r =
      inr (inr (inr (ne, resized (large_index c) index a asked (keeps c (large_index c) kind) added x r)))

  by_zero : (kind : Kind) (index : ℕ) (b : Bool) (added : List Added) (x : Answer) → asked ≤ 2 ^ 30 → (a == 0) ≡ b
      → ((added : List Added) → Runs (allot_plan c thread asked 1 kind) added x → OnePart (Allot asked 1) (calls_in added) x)
      → Runs (cond b (allot_plan c thread asked 1 kind) (moving_plan c index a asked kind (index_of_home c (home_of c a)))) added x
      → Reallocated c a asked (calls_in added) x
  by_zero kind index true added x few is one r = inr (inl (eq_same a 0 is, one added r))
  by_zero kind index false added x few is one r = moving kind index added x (home_of c a) few (eq_other a 0 is) refl r

  by_kind : (kind : Kind) (added : List Added) (x : Answer) → IsKindOf asked kind → Runs (resize_plan c thread a asked kind (index_for c thread kind)) added x
      → Reallocated c a asked (calls_in added) x
  by_kind (Small class) added x of r =
      by_zero (Small class) (class_index c thread class.0) (a == 0) added x (few_of_kind asked (Small class) (class_index c thread class.0) c thread of refl) refl
      (λ added h. one_part (class_index c thread class.0) (Allot asked 1) added x h) r
  by_kind (Large size) added x of r =
      by_zero (Large size) (large_index c) (a == 0) added x of.1 refl (λ added h. one_part (large_index c) (Allot asked 1) added x h) r
  by_kind TooLarge [] x of r = inl (r, of, refl)
  by_kind TooLarge (y ∷ ys) x of r = absurd r

  pub reallocated : (plan : Plan) (added : List Added) (x : Answer) → IsReallocPlan c thread a asked plan → Runs plan added x → Reallocated c a asked (calls_in added) x
  reallocated plan added x is r = by_kind is.kind added x is.kind_is (subst (λ (q : Plan). Runs q added x) is.is r)
