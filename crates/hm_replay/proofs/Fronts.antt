-- What is gained where memory is wanted in the middle of a call, of a step or of a script.
use Rattle.std.proofs.Common.{◌≡◌, ℕ, ◌+◌, ◌<◌, zero, suc, get_or, List, [], ◌∷◌, ◌++◌, length, slice_index_or, take, drop, Option, Some, Result, Ok, Err, OnErr, refl, sym, ◌∙◌, ap, subst, arith}
use Rattle.std.proofs.lemmas.List.{append-nil}
use Rattle.std.proofs.Math.Seq.{map-set_same}
use mathlib.Core.Logic.{inl, inr}
use Rattle.hm_base.specs.declared.memory.NoMemory.{NoMemory}
use Rattle.hm_model.specs.declared.answer.Answer.{Answer}
use Rattle.hm_model.specs.declared.entry.Call.{Call}
use Rattle.hm_model.specs.declared.entry.Reply.{Reply}
use Rattle.hm_model.specs.declared.entry.Who.{Who}
use Rattle.hm_report.specs.declared.results.StepResult.{StepResult}
use Rattle.hm_trace.specs.declared.step.Step.{Step}
use Rattle.hm_trace.specs.Views.{StepView, step_view, steps_view}
use Rattle.hm_turn.specs.Known.{Known}
use Rattle.hm_heap.specs.Passes.{PassView}
use Rattle.hm_heap.specs.Parts.{who_of, HasPart}
use Rattle.hm_heap.specs.Plans.{Plan, Done, Part, Follows, GoesOn}
use Rattle.hm_replay.specs.Gains.{Gains, GainsFront, mine_of}
use Rattle.hm_replay.specs.Names.{Names}
use Rattle.hm_replay.specs.Scripts.{RunsSteps, RunsFront, StopsAt}
use Rattle.hm_replay.specs.Steps.{Terms, Answers, BreaksOff, Fronts, IsStepPlan, base_of, who_at}
use Rattle.hm_replay.specs.Uses.{Own, TakesPart, Uses, UsesFront}
use Rattle.hm_replay.proofs.Gaining.{gains_as, gains_none, gains_then, part_gains}
use Rattle.hm_replay.proofs.Trying.{Idles}

pub on_err : {T E : Type 0} {X : Type 0} (r : Result T E) → X → OnErr r X
on_err (Ok a) x = tt
on_err (Err e) x = x

-- ---- a plan
-- all parts were made
pub uses_all : (who : ℕ → Who) (n : ℕ) (plan : Plan) (a : Answer) (xs ys : Own) → Uses who n plan a xs ys → UsesFront who n plan xs ys
uses_all who n (Done b) a xs ys u = u.1
uses_all who n (Part index call next) a xs ys u = inr (record {
  entry = u.entry;
  who_is = u.who_is;
  call_is = u.call_is;
  left = u.left;
  takes = u.takes;
  rest = uses_all who (n + 1) (next u.entry.reply) a u.left ys u.rest;
})

-- a part for which memory was wanted gains nothing
lacks_none : (p m : PassView) (index : ℕ) (who : Who) (call : Call) (e : NoMemory) → HasPart p m index who call (Err e)
    → Gains p.turns m.turns (λ xs ys. xs ≡ ys)
lacks_none p m index who call e h = record {
  own = λ other. [];
  mine = λ other.
      ap (λ z. mine_of z other) h.turns_are
      ∙ ap (λ z. slice_index_or z other []) (map-set_same (λ (t : Known). t.knows.mine) p.turns index h.turn h.turn (h.called h.turn).1.made.mine)
      ∙ sym (append-nil (mine_of p.turns other));
  is = λ left. refl;
}

follows_front : (p q : PassView) (step n : ℕ) (plan : Plan) (e : NoMemory) → Follows p q step n plan (Err e)
    → Gains p.turns q.turns (λ xs ys. UsesFront (λ part. who_of p step part) n plan xs ys)
follows_front p q step n (Done b) e f = let no : Err e ≡ Ok b = f.0 in absurd cc
follows_front p q step n (Part index call next) e f =
    rest_front p q f.between step n index call next e f.made f.same f.part f.rest
    (λ reply g. follows_front f.between q step (n + 1) (next reply) e g)
  where
    rest_front : (p q m : PassView) (step n index : ℕ) (call : Call) (next : Reply → Plan) (e : NoMemory) (r : Result Reply NoMemory)
        → m ≡ record p { turns = m.turns } → HasPart p m index (who_of p step n) call r
        → GoesOn m q (Err e) (λ between reply. Follows between q step (n + 1) (next reply) (Err e)) r
        → ((reply : Reply) → Follows m q step (n + 1) (next reply) (Err e)
        → Gains m.turns q.turns (λ xs ys. UsesFront (λ part. who_of m step part) (n + 1) (next reply) xs ys))
        → Gains p.turns q.turns (λ xs ys. UsesFront (λ part. who_of p step part) n (Part index call next) xs ys)
    rest_front p q m step n index call next e (Err lacked) same h rest deeper =
        let Front : Own → Own → Type 0 = λ xs ys. UsesFront (λ part. who_of p step part) n (Part index call next) xs ys in
        subst (λ (z : PassView). Gains p.turns z.turns Front) (sym rest.0)
        (gains_as p.turns m.turns (λ xs ys. xs ≡ ys) Front (λ xs ys is. inl (λ other. ap (λ (z : Own). z other) (sym is)))
        (lacks_none p m index (who_of p step n) call lacked h))
    rest_front p q m step n index call next e (Ok reply) same h rest deeper =
        gains_as p.turns q.turns
        (λ xs ys. TakesPart index (who_of p step n) call xs (λ left again. UsesFront (λ part. who_of p step part) (n + 1) (next again) left ys))
        (λ xs ys. UsesFront (λ part. who_of p step part) n (Part index call next) xs ys) (λ xs ys takes. inr takes)
        (part_gains p m q index (who_of p step n) call reply
        (λ xs again ys. UsesFront (λ part. who_of p step part) (n + 1) (next again) xs ys) h
        (subst (λ (z : PassView). Gains m.turns q.turns
        (λ xs ys. UsesFront (λ part. who_of z step part) (n + 1) (next reply) xs ys)) same (deeper reply rest)))

-- ---- a call
pub front_of : (IsPlan : Plan → Type 0) (plan : Plan) (p q : PassView) (step : ℕ) (e : NoMemory) → IsPlan plan
    → Follows p q step 1 plan (Err e) → GainsFront IsPlan p q step
front_of IsPlan plan p q step e is f =
    gains_as p.turns q.turns (λ xs ys. UsesFront (λ part. who_of p step part) 1 plan xs ys)
    (Fronts IsPlan (λ part. who_of p step part)) (λ xs ys uses. record { plan = plan; is = is; uses = uses })
    (follows_front p q step 1 plan e f)

pub follows_stops : (IsPlan : Plan → Type 0) (plan : Plan) (p q : PassView) (step : ℕ) (r : Result Answer NoMemory)
    → IsPlan plan → Follows p q step 1 plan r → OnErr r (GainsFront IsPlan p q step)
follows_stops IsPlan plan p q step (Ok a) is f = tt
follows_stops IsPlan plan p q step (Err e) is f = front_of IsPlan plan p q step e is f

-- the call that waits, after one that found the turn not free
pub stops_after_busy : (IsPlan : ℕ → Plan → Type 0) (p m q : PassView) (step : ℕ) (r : Result Answer NoMemory)
    → m ≡ record p { turns = m.turns } → Idles p.turns m.turns
    → OnErr r (GainsFront (IsPlan m.thread) m q step) → OnErr r (GainsFront (IsPlan p.thread) p q step)
stops_after_busy IsPlan p m q step (Ok a) same idle g = tt
stops_after_busy IsPlan p m q step (Err e) same idle g =
    let B : Own → Own → Type 0 = Fronts (IsPlan p.thread) (λ part. who_of p step part) in
    gains_then p.turns m.turns q.turns (λ xs ys. xs ≡ ys) B B
    (λ xs ys zs is b. subst (λ (z : Own). B z zs) (sym is) b) idle.gains
    (subst (λ (z : PassView). Gains m.turns q.turns (Fronts (IsPlan z.thread) (λ part. who_of z step part))) same g)

-- ---- a step
pub gains_broken : (ts us : List Known) (t : Terms) (number base : ℕ) (step : StepView) (o : Option ℕ) → Some base ≡ o
    → Gains ts us (Fronts (IsStepPlan t.config t.thread step base) (λ part. who_at t number part))
    → Gains ts us (BreaksOff t number step o)
gains_broken ts us t number base step o is g = subst (λ (z : Option ℕ). Gains ts us (BreaksOff t number step z)) is g

-- the call was made to its end
pub gains_unnamed : (ts us : List Known) (t : Terms) (number base : ℕ) (step : StepView) (o : Option ℕ) (a : Answer) → Some base ≡ o
    → Gains ts us (Answers (IsStepPlan t.config t.thread step base) (λ part. who_at t number part) a)
    → Gains ts us (BreaksOff t number step o)
gains_unnamed ts us t number base step o a is g =
    gains_broken ts us t number base step o is
    (gains_as ts us (Answers (IsStepPlan t.config t.thread step base) (λ part. who_at t number part) a)
    (Fronts (IsStepPlan t.config t.thread step base) (λ part. who_at t number part))
    (λ xs ys answers. record {
      plan = answers.plan;
      is = answers.is;
      uses = uses_all (λ part. who_at t number part) 1 answers.plan a xs ys answers.uses;
    }) g)

-- the step was not begun
pub stop_none : (ts : List Known) (t : Terms) (number : ℕ) (names : Names) (step : StepView)
    → Gains ts ts (StopsAt t number names (step ∷ []))
stop_none ts t number names step = gains_none ts ts (StopsAt t number names (step ∷ [])) refl (λ xs. inl (λ index. refl))

-- or not run to its end
pub stop_broken : (ts us : List Known) (t : Terms) (number : ℕ) (names : Names) (step : StepView)
    → Gains ts us (BreaksOff t number step (base_of names step)) → Gains ts us (StopsAt t number names (step ∷ []))
stop_broken ts us t number names step =
    gains_as ts us (BreaksOff t number step (base_of names step)) (StopsAt t number names (step ∷ []))
    (λ xs ys broken. inr broken)

-- ---- a script
-- the step at an index, between those before it and those after it
pub split_at : (steps : List Step) (i : ℕ) (s : Step) → i < length steps → s ≡ get_or steps i s
    → steps_view steps ≡ steps_view (take i steps) ++ step_view s ∷ steps_view (drop (suc i) steps)
split_at [] i s lt is = absurd (omega (arith, lt))
split_at (x ∷ xs) zero s lt is = ap (λ (y : Step). step_view y ∷ steps_view xs) (sym is)
split_at (x ∷ xs) (suc i) s lt is = ap (λ (l : List StepView). step_view x ∷ l) (split_at xs i s (omega (arith, lt)) is)

-- the next step was not begun
pub stops_none : (t : Terms) (number : ℕ) (names : Names) (steps : List StepView) (xs : Own) → StopsAt t number names steps xs xs
stops_none t number names [] xs = λ index. refl
stops_none t number names (s ∷ steps) xs = inl (λ index. refl)

-- so many steps were run, and the next one was not begun
pub ran_front : (ts us : List Known) (t : Terms) (names last : Names) (steps done later : List StepView) (rs : List StepResult)
    → steps ≡ done ++ later → Gains ts us (RunsSteps t 1 names done rs last) → Gains ts us (RunsFront t names steps last)
ran_front ts us t names last steps done later rs is g =
    gains_as ts us (RunsSteps t 1 names done rs last) (RunsFront t names steps last)
    (λ xs ys runs. record {
      done = done;
      later = later;
      steps_are = is;
      results = rs;
      left = ys;
      runs = runs;
      stops = stops_none t (1 + length done) last later ys;
    }) g

-- so many steps were run, and the next one was not begun, or not run to its end
pub stopped_front : (ts us vs : List Known) (t : Terms) (names last : Names) (steps done later : List StepView) (s : StepView)
    (rs : List StepResult) (number : ℕ) → number ≡ 1 + length done
    → steps ≡ done ++ s ∷ later → Gains ts us (RunsSteps t 1 names done rs last)
    → Gains us vs (StopsAt t number last (s ∷ [])) → Gains ts vs (RunsFront t names steps last)
stopped_front ts us vs t names last steps done later s rs number number_is is g b =
    gains_then ts us vs (RunsSteps t 1 names done rs last) (StopsAt t number last (s ∷ [])) (RunsFront t names steps last)
    (λ xs ys zs runs stops. record {
      done = done;
      later = s ∷ later;
      steps_are = is;
      results = rs;
      left = ys;
      runs = runs;
      stops = subst (λ (n : ℕ). StopsAt t n last (s ∷ []) ys zs) number_is stops;
    }) g b
