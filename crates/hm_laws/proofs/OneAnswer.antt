-- The table gives one answer to each step and its calls.
use Rattle.std.proofs.Common.{◌≡◌, ◌≢◌, ◌⊎◌, inl, inr, ℕ, ◌*◌, ◌^◌, ◌<◌, ◌≤◌, false, List, [], ◌∷◌, ◌++◌, length, Option, None, sym, ◌∙◌, ap, refl, arith, true≢false}
use Rattle.std.specs.Prelude.{⊤, min}
use Rattle.hm_model.specs.declared.answer.Answer.{Answer}
use Rattle.hm_model.specs.declared.answer.Answer.TheVariants.{Reply as Replied, Overflow, BadAlignment, TooLarge, Outside, Busy, HalfMoved, Kept, Nothing}
use Rattle.hm_model.specs.declared.entry.Call.{Call}
use Rattle.hm_model.specs.declared.entry.Call.TheVariants.{Allot, GiveBack, Measure}
use Rattle.hm_model.specs.declared.entry.Reply.{Reply}
use Rattle.hm_model.specs.declared.entry.Reply.TheVariants.{Given, Freed, Usable}
use Rattle.hm_sizes.specs.declared.config.Config.{Config}
use Rattle.hm_sizes.specs.Aligned.{IsAlignment}
use Rattle.hm_trace.specs.Views.{PlaceView, StepView, Malloc, Calloc, Aligned, Realloc, Free, Sfree, Write, Read, Size}
use Rattle.hm_laws.specs.Answers.{Calls, IsCallOf, IsResized, IsReplied, AnswersAs}
use Rattle.hm_laws.specs.Moves.{Copies, CopiesFirst, StopsBy, IsHalfMoved}
use Rattle.hm_stats.specs.Tallies.{is_given, is_freed}
use Rattle.hm_laws.specs.Replies.{is_usable}

-- ---- by the words
-- of the two answers that a step may have with no call, and what decides between them
abbrev word_first : StepView → Answer
word_first (Calloc name count size) = Overflow
word_first (Aligned name align size) = BadAlignment
word_first (Free place) = Nothing
word_first (Sfree place size) = Nothing
word_first (Write place len byte) = Outside
word_first (Read place len) = Outside
word_first (Size place) = Replied (Usable 0)
word_first step = TooLarge

abbrev word_second : StepView → Answer
word_second (Calloc name count size) = TooLarge
word_second (Aligned name align size) = TooLarge
word_second step = Outside

abbrev Decides : StepView → ℕ → Type 0
Decides (Calloc name count size) a = 2 ^ 64 ≤ count * size
Decides (Aligned name align size) a = IsAlignment align → ⊥
Decides (Realloc name place size) a = 2 ^ 30 < size
Decides (Free place) a = a ≡ 0
Decides (Sfree place size) a = a ≡ 0
Decides (Size place) a = a ≡ 0
Decides step a = ⊤

abbrev FromWords : StepView → ℕ → Answer → Type 0
FromWords step a x = ((x ≡ word_first step) × Decides step a) ⊎ ((x ≡ word_second step) × (Decides step a → ⊥))

one_word : (step : StepView) (a : ℕ) (x y : Answer) → FromWords step a x → FromWords step a y → x ≡ y
one_word step a x y (inl f) (inl g) = f.0 ∙ sym g.0
one_word step a x y (inl f) (inr g) = absurd (g.1 f.1)
one_word step a x y (inr f) (inl g) = absurd (f.1 g.1)
one_word step a x y (inr f) (inr g) = f.0 ∙ sym g.0

-- ---- by calls
abbrev IsResize : StepView → ℕ → Type 0
IsResize (Realloc name place size) a = a ≢ 0
IsResize step a = ⊥

abbrev IsNoResize : StepView → ℕ → Type 0
IsNoResize (Realloc name place size) a = a ≡ 0
IsNoResize step a = ⊤

not_both : (step : StepView) (a : ℕ) → IsResize step a → IsNoResize step a → ⊥
not_both (Realloc name place size) a ne is = ne is
not_both step a ne is = absurd ne

-- the answer to a realloc of the block at a, by its calls
abbrev measured_by : ℕ → Reply → Answer
measured_by a (Usable old) = Kept a old
measured_by a reply = Replied reply

abbrev ended_by : ℕ → ℕ → Call → Reply → Answer
ended_by new usable (GiveBack b stated) Freed = Replied (Given new usable)
ended_by new usable call reply = HalfMoved new usable reply

abbrev last_by : ℕ → ℕ → Calls → Answer
last_by new usable [] = Nothing
last_by new usable (p ∷ []) = ended_by new usable p.0 p.1
last_by new usable (p ∷ q ∷ rest) = last_by new usable (q ∷ rest)

abbrev given_by : Reply → Calls → Answer
given_by (Given new usable) rest = last_by new usable rest
given_by reply rest = Replied reply

abbrev resized_by : ℕ → Calls → Answer
resized_by a [] = Nothing
resized_by a (p ∷ []) = measured_by a p.1
resized_by a (p ∷ q ∷ rest) = given_by q.1 rest

unmeasured : (a : ℕ) (reply : Reply) → is_usable reply ≡ false → measured_by a reply ≡ Replied reply
unmeasured a (Usable old) isnt = absurd (true≢false isnt)
unmeasured a reply isnt = refl

ungiven : (reply : Reply) (rest : Calls) → is_given reply ≡ false → given_by reply rest ≡ Replied reply
ungiven (Given new usable) rest isnt = absurd (true≢false isnt)
ungiven reply rest isnt = refl

unfreed : (new usable b : ℕ) (stated : Option ℕ) (reply : Reply) → is_freed reply ≡ false → ended_by new usable (GiveBack b stated) reply ≡ HalfMoved new usable reply
unfreed new usable b stated Freed isnt = absurd (true≢false isnt)
unfreed new usable b stated reply isnt = refl

copied_by : (a new usable count : ℕ) (reply : Reply) (calls : Calls) → CopiesFirst a new count reply calls → last_by new usable calls ≡ ended_by new usable (GiveBack a None) reply
copied_by a new usable count reply calls first = ap (last_by new usable) first.calls_are ∙ by first.copies
  where
    by : Copies a new count first.copying → last_by new usable (first.copying ++ (GiveBack a None, reply) ∷ []) ≡ ended_by new usable (GiveBack a None) reply
    by (inl none) = ap (λ (l : Calls). last_by new usable (l ++ (GiveBack a None, reply) ∷ [])) none.1
    by (inr some) = ap (λ (l : Calls). last_by new usable (l ++ (GiveBack a None, reply) ∷ [])) some.1

stopped_by : (a new usable count : ℕ) (cause : Reply) (calls : Calls) → StopsBy a new cause count calls → last_by new usable calls ≡ HalfMoved new usable cause
stopped_by a new usable count cause calls (inl (isnt, first)) = copied_by a new usable count cause calls first ∙ unfreed new usable a None cause isnt
stopped_by a new usable count cause calls (inr (inl (isnt, some, runs, is))) = ap (last_by new usable) is
stopped_by a new usable count cause calls (inr (inr (isnt, some, is))) = ap (last_by new usable) is

-- ---- an answer, by what it comes from
abbrev Sorted : StepView → ℕ → Calls → Answer → Type 0
Sorted step a calls x = ((calls ≡ []) × FromWords step a x)
    ⊎ ((call : Call) × (reply : Reply) × (calls ≡ (call, reply) ∷ []) × (x ≡ Replied reply) × IsNoResize step a)
    ⊎ (IsResize step a × (first : Call × Reply) × (rest : Calls) × (calls ≡ first ∷ rest) × (resized_by a calls ≡ x))

no_resize : (step : StepView) (a : ℕ) (call : Call) → IsCallOf step a call → IsNoResize step a
no_resize (Realloc name place size) a call of = of.0
no_resize step a call of = tt

sort_resized : (name : List ℕ) (place : PlaceView) (size a : ℕ) (calls : Calls) (reply : Reply) → a ≢ 0 → IsResized a size calls reply → Sorted (Realloc name place size) a calls (Replied reply)
sort_resized name place size a calls reply ne (inl (new, usable, is, m)) =
    inr (inr (
      ne,
      (Measure a, Usable m.old),
      (Allot size 1, Given new usable) ∷ m.rest,
      m.calls_are,
      ap (resized_by a) m.calls_are ∙ copied_by a new usable (min m.old size) Freed m.rest m.goes_on ∙ ap (λ (r : Reply). Replied r) (sym is),
    ))
sort_resized name place size a calls reply ne (inr (inl (isnt, is))) =
    inr (inr (ne, (Measure a, reply), [], is, ap (resized_by a) is ∙ unmeasured a reply isnt))
sort_resized name place size a calls reply ne (inr (inr (isnt, old, is))) =
    inr (inr (ne, (Measure a, Usable old), (Allot size 1, reply) ∷ [], is, ap (resized_by a) is ∙ ungiven reply [] isnt))

sort_replied : (c : Config) (step : StepView) (a : ℕ) (calls : Calls) (reply : Reply) → IsReplied step a calls reply → Sorted step a calls (Replied reply)
sort_replied c (Size place) a calls reply (inl h) = inl (h.0, inl (ap (λ (r : Reply). Replied r) h.2, h.1))
sort_replied c (Realloc name place size) a calls reply (inr (inr h)) = sort_resized name place size a calls reply h.0 h.1
sort_replied c step a calls reply (inr (inl h)) = inr (inl (h.0, reply, h.2, refl, no_resize step a h.0 h.1))
sort_replied c step a calls reply (inl h) = absurd h
sort_replied c step a calls reply (inr (inr h)) = absurd h

sort : (c : Config) (step : StepView) (a : ℕ) (calls : Calls) (x : Answer) → AnswersAs c step a calls x → Sorted step a calls x
sort c (Calloc name count size) a calls Overflow h = inl (h.0, inl (refl, h.1))
sort c step a calls Overflow h = absurd h
sort c (Aligned name align size) a calls BadAlignment h = inl (h.0, inl (refl, h.1))
sort c step a calls BadAlignment h = absurd h
sort c (Malloc name size) a calls TooLarge h = inl (h.0, inl (refl, tt))
sort c (Calloc name count size) a calls TooLarge h = inl (h.0, inr (refl, λ past. omega (arith, past, h.1)))
sort c (Aligned name align size) a calls TooLarge h = inl (h.0, inr (refl, λ none. none h.1))
sort c (Realloc name place size) a calls TooLarge h = inl (h.0, inl (refl, h.1))
sort c step a calls TooLarge h = absurd h
sort c (Realloc name place size) a calls Outside h = inl (h.0, inr (refl, λ past. omega (arith, past, h.2)))
sort c (Free place) a calls Outside h = inl (h.0, inr (refl, h.1))
sort c (Sfree place size) a calls Outside h = inl (h.0, inr (refl, h.1))
sort c (Size place) a calls Outside h = inl (h.0, inr (refl, h.1))
sort c (Write place len byte) a calls Outside h = inl (h.0, inl (refl, tt))
sort c (Read place len) a calls Outside h = inl (h.0, inl (refl, tt))
sort c step a calls Outside h = absurd h
sort c (Free place) a calls Nothing h = inl (h.0, inl (refl, h.1))
sort c (Sfree place size) a calls Nothing h = inl (h.0, inl (refl, h.1))
sort c step a calls Nothing h = absurd h
sort c step a calls Busy h = absurd h
sort c (Realloc name place size) a calls (Kept b usable) h =
    inr (inr (h.0, (Measure a, Usable usable), [], h.1.1, ap (resized_by a) h.1.1 ∙ ap (λ (n : ℕ). Kept n usable) (sym h.1.0)))
sort c step a calls (Kept b usable) h = absurd h
sort c (Realloc name place size) a calls (HalfMoved new usable cause) h = half h.1
  where
    half : IsHalfMoved a size new usable cause calls → Sorted (Realloc name place size) a calls (HalfMoved new usable cause)
    half m =
        inr (inr (
          h.0,
          (Measure a, Usable m.old),
          (Allot size 1, Given new usable) ∷ m.rest,
          m.calls_are,
          ap (resized_by a) m.calls_are ∙ stopped_by a new usable (min m.old size) cause m.rest m.goes_on,
        ))
sort c step a calls (HalfMoved new usable cause) h = absurd h
sort c step a calls (Replied reply) h = sort_replied c step a calls reply h

none_some : (p : Call × Reply) (calls rest : Calls) → calls ≡ [] → calls ≡ p ∷ rest → ⊥
none_some p calls rest none some = apart (ap (λ (l : Calls). length l) (sym none ∙ some))
  where
    apart : 0 ≡ length (p ∷ rest) → ⊥
    apart e = omega (arith, e)

abbrev reply_first : Calls → Answer
reply_first [] = Nothing
reply_first (p ∷ rest) = Replied p.1

same_sorted : (step : StepView) (a : ℕ) (calls : Calls) (x y : Answer) → Sorted step a calls x → Sorted step a calls y → x ≡ y
same_sorted step a calls x y (inl f) (inl g) = one_word step a x y f.1 g.1
same_sorted step a calls x y (inl f) (inr (inl g)) = absurd (none_some (g.0, g.1) calls [] f.0 g.2)
same_sorted step a calls x y (inl f) (inr (inr g)) = absurd (none_some g.1 calls g.2 f.0 g.3)
same_sorted step a calls x y (inr (inl f)) (inl g) = absurd (none_some (f.0, f.1) calls [] g.0 f.2)
same_sorted step a calls x y (inr (inl f)) (inr (inl g)) = f.3 ∙ ap reply_first (sym f.2 ∙ g.2) ∙ sym g.3
same_sorted step a calls x y (inr (inl f)) (inr (inr g)) = absurd (not_both step a g.0 f.4)
same_sorted step a calls x y (inr (inr f)) (inl g) = absurd (none_some f.1 calls f.2 g.0 f.3)
same_sorted step a calls x y (inr (inr f)) (inr (inl g)) = absurd (not_both step a f.0 g.4)
same_sorted step a calls x y (inr (inr f)) (inr (inr g)) = sym f.4 ∙ g.4

pub one_answer : (c : Config) (step : StepView) (a : ℕ) (calls : Calls) (x y : Answer) → AnswersAs c step a calls x → AnswersAs c step a calls y → x ≡ y
one_answer c step a calls x y f g = same_sorted step a calls x y (sort c step a calls x f) (sort c step a calls y g)
