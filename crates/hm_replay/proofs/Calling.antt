-- A call of a heap that a step makes.
use Rattle.std.proofs.Common.{◌≡◌, ℕ, Result, Ok, Err, IsErrAnd, refl, sym, ◌∙◌, ap, subst}
use Rattle.hm_base.specs.declared.memory.NoMemory.{NoMemory}
use Rattle.hm_model.specs.declared.answer.Answer.{Answer}
use Rattle.hm_trace.specs.declared.step.Step.{Step}
use Rattle.hm_trace.specs.Views.{step_view}
use Rattle.hm_heap.specs.Passes.{HeapView, PassView, GoesOnAs}
use Rattle.hm_heap.specs.Plans.{Plan, CarriesOut, FollowsSome, TriesOut}
use Rattle.hm_replay.specs.Gains.{HasCalled}
use Rattle.hm_replay.specs.Steps.{IsStepPlan}
use Rattle.hm_replay.proofs.Fronts.{follows_stops, stops_after_busy}
use Rattle.hm_replay.proofs.Gaining.{all_grew_then, follows_answer, follows_grew}
use Rattle.hm_replay.proofs.Trying.{IsBusy, Idles, after_busy, tries_follows}

module _ {h : HeapView} where
  -- a plan was carried out
  pub carries_called : (IsPlan : Plan → Type 0) (plan : Plan) (p q : PassView) (step : ℕ) (r : Result Answer NoMemory)
      → IsPlan plan → CarriesOut h p q step 1 plan r → HasCalled h IsPlan p q step r
  carries_called IsPlan plan p q step r is c = record {
    run = record { same = c.goes_on.same; of = c.goes_on.of; grew = follows_grew p q step 1 plan r c.follows };
    gains = follows_answer IsPlan plan p q step r is c.follows;
    stops = follows_stops IsPlan plan p q step r is c.follows;
    reach = c.reach;
  }

  pub serves_answer : (IsPlan : Plan → Type 0) (p q : PassView) (step : ℕ) (r : Result Answer NoMemory)
      → FollowsSome h IsPlan p q step r → HasCalled h IsPlan p q step r
  serves_answer IsPlan p q step r s = carries_called IsPlan s.plan p q step r s.is s.carried

  pub carries_is : (plan : Plan) (p q : PassView) (step : ℕ) (r : Result Answer NoMemory) → CarriesOut h p q step 1 plan r
      → HasCalled h (λ other. other ≡ plan) p q step r
  carries_is plan p q step r c = carries_called (λ other. other ≡ plan) plan p q step r refl c

  -- a plan was tried, and the turn was free
  pub tries_carried : (p q : PassView) (step : ℕ) (plan : Plan) (r : Result Answer NoMemory) → (IsBusy r → ⊥)
      → TriesOut h p q step plan r → CarriesOut h p q step 1 plan r
  tries_carried p q step plan r not t = record {
    goes_on = t.goes_on;
    follows = tries_follows p q step plan r not t.tries;
    reach = t.reach;
  }

  -- the call that waits, after one that found the turn not free
  pub called_after_busy : (IsPlan : ℕ → Plan → Type 0) (p m q : PassView) (step : ℕ) (r : Result Answer NoMemory)
      → GoesOnAs h p m → Idles p.turns m.turns → HasCalled h (IsPlan m.thread) m q step r
      → HasCalled h (IsPlan p.thread) p q step r
  called_after_busy IsPlan p m q step r first idle c = record {
    run = record {
      same = c.run.same ∙ ap (λ (z : PassView). record z { turns = q.turns }) first.same;
      of = c.run.of;
      grew = all_grew_then p.turns m.turns q.turns idle.grew c.run.grew;
    };
    gains = after_busy IsPlan p m q step r first.same idle c.gains;
    stops = stops_after_busy IsPlan p m q step r first.same idle c.stops;
    reach = c.reach;
  }

  -- for want of memory, as it is handed on
  pub lacked : (IsPlan : Plan → Type 0) (p q : PassView) (step : ℕ) (e : NoMemory) (Q : NoMemory → Type 0)
      (r : Result Answer NoMemory) → IsErrAnd r Q → HasCalled h IsPlan p q step (Err e) → HasCalled h IsPlan p q step r
  lacked IsPlan p q step e Q (Err f) is c = record { run = c.run; gains = tt; stops = c.stops; reach = tt }
  lacked IsPlan p q step e Q (Ok a) is c = absurd is

  -- of the step as it is written
  pub respelled : (p q : PassView) (number base : ℕ) (step spelled : Step) (r : Result Answer NoMemory) → step ≡ spelled
      → HasCalled h (IsStepPlan h.config p.thread (step_view spelled) base) p q number r
      → HasCalled h (IsStepPlan h.config p.thread (step_view step) base) p q number r
  respelled p q number base step spelled r is =
      subst (λ (s : Step). HasCalled h (IsStepPlan h.config p.thread (step_view s) base) p q number r) (sym is)
