-- Which plan a call of a heap follows.
use Rattle.std.proofs.lemmas.Option.{none-some, same_Some}
use Rattle.std.proofs.Common.{◌≡◌, ◌==◌, ◌*◌, ◌^◌, ◌<◌, ℕ, Bool, false, if◌then◌else◌, Option, Some, None, Ok, refl, sym, ◌∙◌, ap}
use Rattle.hm_model.specs.declared.answer.Answer.{Answer}
use Rattle.hm_model.specs.declared.answer.Answer.TheVariants as answer
use Rattle.hm_sizes.specs.declared.class.Kind.{Kind}
use Rattle.hm_sizes.specs.declared.class.Kind.TheVariants.{Small, Large, TooLarge}
use Rattle.hm_sizes.specs.declared.config.Config.{Config}
use Rattle.hm_sizes.specs.Aligned.{AlignedGives}
use Rattle.hm_sizes.specs.Sizes.{IsKindOf}
use Rattle.hm_model.specs.declared.entry.Call.{Call}
use Rattle.hm_model.specs.declared.entry.Call.TheVariants.{Allot}
use Rattle.hm_model.specs.declared.entry.Reply.{Reply}
use Rattle.hm_model.specs.declared.entry.Reply.TheVariants.{Given, Overwritten, Exhausted, NoSpace, PagesFailed, Freed, NoSlot, Unused, DoubleFree, WrongSize, Canary, Usable, Bytes, Filled, Trap, NotLive}
use Rattle.hm_heap.specs.Passes.{HeapView, PassView, AreOf}
use Rattle.hm_heap.specs.Plans.{CarriesOut, Done, Part, TriesOut}
use Rattle.hm_heap.specs.Requests.{Reaches, AnswerInReach, ReplyInReach}
use Rattle.hm_heap.specs.Calls.{index_for, class_index, large_index, home_index, replied, allot_plan, moving_plan, resize_plan, IsCallocPlan, IsAlignedPlan, IsReallocPlan}

-- an answer without a part
pub answers_at_once : (h : HeapView) (p : PassView) (step : ℕ) (a : Answer) → AreOf h.locks p.turns → AnswerInReach a
    → CarriesOut h p p step 1 (Done a) (Ok a)
answers_at_once h p step a of reach = record {
  goes_on = record { same = refl; of = of };
  follows = (refl, refl);
  reach = reach;
}

pub tries_at_once : (h : HeapView) (p : PassView) (step : ℕ) (a : Answer) → AreOf h.locks p.turns → AnswerInReach a
    → TriesOut h p p step (Done a) (Ok a)
tries_at_once h p step a of reach = record {
  goes_on = record { same = refl; of = of };
  tries = (refl, refl);
  reach = reach;
}

pub overflows : (c : Config) (thread count size : ℕ) → (count * size < 2 ^ 64 → ⊥) → IsCallocPlan c thread count size (Done answer.Overflow)
overflows c thread count size most = record { overflow = λ e. refl; fits = λ lt. absurd (most lt) }

pub no_alignment_plan : (c : Config) (thread align asked : ℕ) → AlignedGives asked align None → IsAlignedPlan c thread align asked (Done answer.BadAlignment)
no_alignment_plan c thread align asked none = record { kind = None; kind_is = none; is = refl }

-- where a kind is asked for, said of the fields, and so of what contracts see of the heap and the pass
pub index_seen : {inside h : HeapView} {inner p : PassView} {index : Option ℕ} (kind : Kind) → inside ≡ h → inner ≡ p
    → index ≡ index_for inside.config inner.thread kind → index ≡ index_for h.config p.thread kind
index_seen {h = h} {inner = inner} kind heap_is pass_is at =
    at
    ∙ ap (λ (z : HeapView). index_for z.config inner.thread kind) heap_is
    ∙ ap (λ (z : PassView). index_for h.config z.thread kind) pass_is

-- where the region of an address stands, likewise
pub home_seen : {inside h : HeapView} {index : Option ℕ} (a : ℕ) → inside ≡ h → index ≡ home_index inside.config a
    → index ≡ home_index h.config a
home_seen a heap_is at = at ∙ ap (λ (z : HeapView). home_index z.config a) heap_is

module _ (c : Config) (thread a asked : ℕ) (kind : Kind) (kind_is : IsKindOf asked kind) where
  pub too_large : None ≡ index_for c thread kind → IsReallocPlan c thread a asked (Done answer.TooLarge)
  too_large at = record { kind = kind; kind_is = kind_is; is = ap (resize_plan c thread a asked kind) at }

  pub moves : (index : ℕ) (home : Option ℕ) → Some index ≡ index_for c thread kind → (a == 0) ≡ false → home ≡ home_index c a → IsReallocPlan c thread a asked (moving_plan c index a asked kind home)
  moves index home at some is = record {
    kind = kind;
    kind_is = kind_is;
    is = ap (moving_plan c index a asked kind) is
        ∙ sym (ap (λ (b : Bool). if b then allot_plan c thread asked 1 kind else moving_plan c index a asked kind (home_index c a)) some)
        ∙ ap (resize_plan c thread a asked kind) at;
  }

-- of a kind that has no index
pub allots_nowhere : (c : Config) (thread asked align : ℕ) (kind : Kind) → None ≡ index_for c thread kind
    → Done answer.TooLarge ≡ allot_plan c thread asked align kind
allots_nowhere c thread asked align TooLarge at = refl
allots_nowhere c thread asked align (Small class) at = absurd (none-some (class_index c thread class.0) at)
allots_nowhere c thread asked align (Large size) at = absurd (none-some (large_index c) at)

-- of a kind that has this index
pub allots_there : (c : Config) (thread asked index : ℕ) (kind : Kind) → Some index ≡ index_for c thread kind
    → Part index (Allot asked 1) replied ≡ allot_plan c thread asked 1 kind
allots_there c thread asked index TooLarge at = absurd (none-some index (sym at))
allots_there c thread asked index (Small class) at =
    ap (λ (n : ℕ). Part n (Allot asked 1) replied) (same_Some index (class_index c thread class.0) at)
allots_there c thread asked index (Large size) at =
    ap (λ (n : ℕ). Part n (Allot asked 1) replied) (same_Some index (large_index c) at)

-- the block of a reply
pub reply_in_reach : (call : Call) (reply : Reply) → Reaches call reply → ReplyInReach reply
reply_in_reach call (Given a usable) r = r.given a usable refl
reply_in_reach call (Overwritten a at found) r = tt
reply_in_reach call Exhausted r = tt
reply_in_reach call NoSpace r = tt
reply_in_reach call PagesFailed r = tt
reply_in_reach call Freed r = tt
reply_in_reach call NoSlot r = tt
reply_in_reach call Unused r = tt
reply_in_reach call DoubleFree r = tt
reply_in_reach call (WrongSize block stated) r = tt
reply_in_reach call (Canary kept found) r = tt
reply_in_reach call (Usable size) r = tt
reply_in_reach call (Bytes runs) r = tt
reply_in_reach call Filled r = tt
reply_in_reach call (Trap a) r = tt
reply_in_reach call NotLive r = tt
