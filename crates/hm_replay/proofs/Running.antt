-- One more step of a script.
use Rattle.std.proofs.Common.{◌≡◌, ℕ, ◌+◌, ◌<◌, ◌||◌, zero, suc, Bool, true, get_or, List, [], ◌∷◌, ◌++◌, append-nil, length, take, Option, Some, None, refl, sym, ◌∙◌, ap, subst, arith}
use Rattle.std.specs.List.{list_all, list_any}
use Rattle.std.proofs.Math.Bool.{or-false, or_assoc}
use Rattle.std.proofs.lemmas.Bool.{and_parts}
use Rattle.std.proofs.lemmas.List.{length-map, length-take-le}
use mathlib.Core.Path.{fun_ext, transport}
use Rattle.hm_model.specs.declared.answer.Answer.{Answer}
use Rattle.hm_report.specs.declared.results.StepResult.{StepResult}
use Rattle.hm_trace.specs.Traces.{sets_name}
use Rattle.hm_trace.specs.Views.{StepView, step_view, steps_view}
use Rattle.hm_trace.specs.declared.step.Step.{Step}
use Rattle.hm_turn.specs.Known.{Known}
use Rattle.hm_heap.specs.Passes.{HeapView, PassView}
use Rattle.hm_replay.specs.Names.{Names, Touched, touched_all, touched_by}
use Rattle.hm_replay.specs.Uses.{Own, used_up}
use Rattle.hm_replay.specs.Steps.{Terms, who_at, Answers, skipped, IsStepPlan, Steps, base_of, names_after}
use Rattle.hm_replay.specs.Scripts.{RunsSteps}
use Rattle.hm_replay.specs.Gains.{Gains, GainsResult, GainsResults, mine_of, terms_of}
use Rattle.hm_replay.proofs.Gaining.{gains_as, gains_none, gains_then}

-- ---- the call of a step
pub gains_called : (ts us : List Known) (t : Terms) (number base : ℕ) (step : StepView) (o : Option ℕ) (a : Answer)
    → Some base ≡ o
    → Gains ts us (Answers (IsStepPlan t.config t.thread step base) (λ part. who_at t number part) a)
    → Gains ts us (Steps t number step o (record { base = base; answer = Some a }))
gains_called ts us t number base step o a is g =
    let IsMade : Option ℕ → Own → Own → Type 0 = λ z. Steps t number step z (record { base = base; answer = Some a }) in
    subst (λ (z : Option ℕ). Gains ts us (IsMade z)) is
    (gains_as ts us (Answers (IsStepPlan t.config t.thread step base) (λ part. who_at t number part) a)
    (IsMade (Some base))
    (λ xs ys answers. record { answer = a; result = refl; answers = answers }) g)

pub gains_skipped : (ts : List Known) (t : Terms) (number : ℕ) (step : StepView) (o : Option ℕ) → None ≡ o
    → Gains ts ts (Steps t number step o skipped)
gains_skipped ts t number step o is =
    subst (λ (z : Option ℕ). Gains ts ts (Steps t number step z skipped)) is
    (gains_none ts ts (Steps t number step None skipped) refl (λ xs. (refl, λ index. refl)))

-- ---- a script
pub pushed : (t : Terms) (n : ℕ) (names last : Names) (steps : List StepView) (s : StepView) (rs : List StepResult) (r : StepResult)
    (xs ys zs : Own) → RunsSteps t n names steps rs last xs ys → Steps t (n + length steps) s (base_of last s) r ys zs
    → RunsSteps t n names (steps ++ s ∷ []) (rs ++ r ∷ []) (names_after last s r.answer) xs zs
pushed t n names last [] s rs r xs ys zs ran step =
    let here : n + 0 ≡ n = omega arith in
    record {
      result = r;
      later = [];
      left = zs;
      results_are = ap (λ (l : List StepResult). l ++ r ∷ []) ran.0;
      this = transport (λ i. Steps t (here i) s (base_of (ran.1 i) s) r (λ index. ran.2 index i) zs) step;
      rest = (refl, ap (λ (l : Names). names_after l s r.answer) ran.1, λ index. refl);
    }
pushed t n names last (u ∷ steps) s rs r xs ys zs ran step =
    let next : n + suc (length steps) ≡ (n + 1) + length steps = omega arith in
    record {
      result = ran.result;
      later = ran.later ++ r ∷ [];
      left = ran.left;
      results_are = ap (λ (l : List StepResult). l ++ r ∷ []) ran.results_are;
      this = ran.this;
      rest = pushed t (n + 1) (names_after names u ran.result.answer) last steps s ran.later r ran.left ys zs ran.rest
          (subst (λ (m : ℕ). Steps t m s (base_of last s) r ys zs) next step);
    }

-- how many steps are before the one at an index
pub steps_before : (steps : List Step) (i : ℕ) → i < length steps → i + 1 ≡ 1 + length (steps_view (take i steps))
steps_before steps i lt =
    omega (arith, length-map (take i steps) step_view ∙ length-take-le i steps (omega (arith, lt)))

pub ran_more : (h : HeapView) (p m q : PassView) (names last : Names) (steps : List Step) (i : ℕ) (s : Step)
    (rs : List StepResult) (r : StepResult) → i < length steps → m ≡ record p { turns = m.turns }
    → GainsResults h p m names (steps_view (take i steps)) rs last → GainsResult h m q (i + 1) last (step_view s) r
    → GainsResults h p q names (steps_view (take i steps) ++ step_view s ∷ []) (rs ++ r ∷ []) (names_after last (step_view s) r.answer)
ran_more h p m q names last steps i s rs r lt same ran one =
    let t = terms_of h p in
    let before = steps_view (take i steps) in
    let One : ℕ → Own → Own → Type 0 = λ k. Steps t k (step_view s) (base_of last (step_view s)) r in
    let step : Gains m.turns q.turns (One (i + 1)) =
    subst (λ (z : Terms). Gains m.turns q.turns (Steps z (i + 1) (step_view s) (base_of last (step_view s)) r))
    (ap (λ (z : PassView). terms_of h z) same) one in
    gains_then p.turns m.turns q.turns (RunsSteps t 1 names before rs last) (One (i + 1))
    (RunsSteps t 1 names (before ++ step_view s ∷ []) (rs ++ r ∷ []) (names_after last (step_view s) r.answer))
    (λ xs ys zs runs this.
    pushed t 1 names last before (step_view s) rs r xs ys zs runs
    (subst (λ (k : ℕ). One k ys zs) (steps_before steps i lt) this))
    ran step

-- ---- the names that a script touches
pub touched_none : (touched : Touched) → touched ≡ touched_all touched []
touched_none touched = fun_ext (λ q. sym (or-false (touched q)))

pub touched_more : (touched : Touched) (steps : List StepView) (s : StepView)
    → touched_by (touched_all touched steps) s ≡ touched_all touched (steps ++ s ∷ [])
touched_more touched steps s = fun_ext (λ q.
    or_assoc (touched q) (list_any (sets_name q) steps) (sets_name q s)
    ∙ ap (λ (b : Bool). touched q || b) (any_last q steps))
  where
    any_last : (q : List ℕ) (steps : List StepView)
        → (list_any (sets_name q) steps || sets_name q s) ≡ list_any (sets_name q) (steps ++ s ∷ [])
    any_last q [] = sym (or-false (sets_name q s))
    any_last q (u ∷ steps) =
        or_assoc (sets_name q u) (list_any (sets_name q) steps) (sets_name q s)
        ∙ ap (λ (b : Bool). sets_name q u || b) (any_last q steps)

-- what every step passes, the step at an index passes
pub passes_at : (test : StepView → Bool) (steps : List Step) (i : ℕ) (s : Step) → list_all test (steps_view steps) ≡ true
    → i < length steps → s ≡ get_or steps i s → test (step_view s) ≡ true
passes_at test [] i s all lt is = absurd (omega arith)
passes_at test (x ∷ xs) zero s all lt is =
    ap (λ (t : Step). test (step_view t)) is ∙ (and_parts (test (step_view x)) (list_all test (steps_view xs)) all).0
passes_at test (x ∷ xs) (suc i) s all lt is =
    passes_at test xs i s (and_parts (test (step_view x)) (list_all test (steps_view xs)) all).1 (omega arith) is

-- what was gained by turns without own entries is all that they have
pub gained_all : (ts us : List Known) (Is : Own → Own → Type 0) → ((index : ℕ) → mine_of ts index ≡ []) → Gains ts us Is
    → Is (mine_of us) used_up
gained_all ts us Is fresh g =
    subst (λ (xs : Own). Is xs used_up)
    (fun_ext (λ index. append-nil (g.own index) ∙ ap (λ z. z ++ g.own index) (sym (fresh index)) ∙ sym (g.mine index)))
    (g.is used_up)
