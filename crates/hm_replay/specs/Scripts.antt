-- The run of a script over all histories: its own entries are used up step by step.
use Rattle.std.specs.Prelude.{◌≡◌, ◌⊎◌, ℕ, ◌+◌, List, [], ◌∷◌, ◌++◌, length}
use Rattle.hm_report.specs.declared.results.StepResult.{StepResult}
use Rattle.hm_trace.specs.Views.{StepView}
use Rattle.hm_replay.specs.Names.{Names}
use Rattle.hm_replay.specs.Steps.{Terms, base_of, names_after, Steps, BreaksOff}
use Rattle.hm_replay.specs.Uses.{Own, used_up, Stay}

-- the step was run with these names, and the rest goes on with the names after it
pub record Goes (t : Terms) (number : ℕ) (names : Names) (step : StepView) (results : List StepResult) (xs : Own)
    (Rest : Names → List StepResult → Own → Type 0) : Type 0 where
  pub result : StepResult
  pub later : List StepResult
  pub left : Own
  pub results_are : results ≡ result ∷ later
  pub this : Steps t number step (base_of names step) result xs left
  pub rest : Rest (names_after names step result.answer) later left

-- the steps from this number on, one after another: their results, and the names at the end
abbrev pub RunsSteps : Terms → ℕ → Names → List StepView → List StepResult → Names → Own → Own → Type 0
RunsSteps t number names [] results last xs ys = (results ≡ []) × (last ≡ names) × Stay xs ys
RunsSteps t number names (step ∷ steps) results last xs ys =
    Goes t number names step results xs (λ now later left. RunsSteps t (number + 1) now steps later last left ys)

-- all entries of the caller are those of the script
abbrev pub RunsAllSteps : Terms → Names → List StepView → List StepResult → Names → Own → Type 0
RunsAllSteps t names steps results last own = RunsSteps t 1 names steps results last own used_up

-- ---- a script that ends for want of memory
-- the step with this number, the first of these, was not run to its end
abbrev pub StopsAt : Terms → ℕ → Names → List StepView → Own → Own → Type 0
StopsAt t number names [] xs ys = Stay xs ys
StopsAt t number names (step ∷ later) xs ys = Stay xs ys ⊎ BreaksOff t number step (base_of names step) xs ys

-- the first steps, however many, were run and left these names; the next one may have been begun
pub record RunsFront (t : Terms) (names : Names) (steps : List StepView) (last : Names) (xs ys : Own) : Type 0 where
  pub done : List StepView
  pub later : List StepView
  pub steps_are : steps ≡ done ++ later
  pub results : List StepResult
  pub left : Own
  pub runs : RunsSteps t 1 names done results last xs left
  pub stops : StopsAt t (1 + length done) last later left ys

-- all entries of the caller are those of a front of the script
abbrev pub IsFront : Terms → Names → List StepView → Names → Own → Type 0
IsFront t names steps last own = RunsFront t names steps last own used_up
