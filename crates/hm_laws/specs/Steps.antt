-- A step of a run: its result, and the entries that it added to the histories.
use Rattle.std.specs.Prelude.{◌≡◌, ℕ, ◌+◌, ◌==◌, if◌then◌else◌, List, [], ◌∷◌, ◌++◌, map, slice_get, Some, ⊤}
use Rattle.std.specs.List.{filter}
use Rattle.hm_outside.specs.declared.pages.Pages as pages
use Rattle.hm_model.specs.declared.entry.Call.{Call}
use Rattle.hm_model.specs.declared.entry.Entry.{Entry}
use Rattle.hm_model.specs.declared.entry.Reply.{Reply}
use Rattle.hm_report.specs.declared.results.Results.{Results}
use Rattle.hm_report.specs.declared.results.StepResult.{StepResult}
use Rattle.hm_trace.specs.Views.{StepView, ScriptView, TraceView, scripts_of}
use Rattle.hm_heap.specs.declared.close.Closed.{Closed}
use Rattle.hm_heap.specs.declared.close.History.{History}
use Rattle.hm_replay.specs.Rounds.{own_in}
use Rattle.hm_run.specs.declared.words.Options.{Options}
use Rattle.hm_run.specs.Laws.{Begins}

-- ---- where a step stands
-- the scripts of all rounds, one after another
abbrev pub all_scripts : List (List ScriptView) → List ScriptView
all_scripts [] = []
all_scripts (scripts ∷ rounds) = scripts ++ all_scripts rounds

-- with so many scripts before its own, and so many steps before it there, this is a step of the trace, and its result
pub record IsStepOf (trace : TraceView) (results : List Results) (scripts steps : ℕ) (step : StepView)
    (result : StepResult) : Type 0 where
  pub script : ScriptView
  pub script_is : slice_get (all_scripts (scripts_of trace)) scripts ≡ Some script
  pub step_is : slice_get script.steps steps ≡ Some step
  pub results_of : Results
  pub results_is : slice_get results scripts ≡ Some results_of
  pub result_is : slice_get results_of.items steps ≡ Some result

-- ---- which entries it added
-- an entry, and the index of the history in which it stands
pub record Added : Type 0 where
  pub index : ℕ
  pub entry : Entry

-- those of these that stand at an index
abbrev pub added_at : ℕ → List Added → List Entry
added_at index [] = []
added_at index (x ∷ xs) = if x.index == index then x.entry ∷ added_at index xs else added_at index xs

-- their parts are numbered from this one on
abbrev pub ArePartsFrom : ℕ → List Added → Type 0
ArePartsFrom n [] = ⊤
ArePartsFrom n (x ∷ xs) = (x.entry.who.part ≡ n) × ArePartsFrom (n + 1) xs

-- they are the entries of the step with this number of a caller, part by part, and there are no others
pub record AreOfStep (hs : List History) (caller step : ℕ) (added : List Added) : Type 0 where
  pub parts : ArePartsFrom 1 added
  pub all : (index : ℕ) → filter (λ (e : Entry). e.who.step == step) (own_in hs caller index) ≡ added_at index added

-- the calls that they are of, each with its reply
abbrev pub calls_in : List Added → List (Call × Reply)
calls_in added = map (λ (x : Added). (x.entry.call, x.entry.reply)) added

-- the history at its index begins with these entries and then this one
pub record Stands {P : Type 0} (meaning : pages.Ghosts P) (o : Options) (closed : Closed P) (x : Added) : Type 0 where
  pub page : P
  pub before : List Entry
  pub begins : Begins meaning o closed x.index page (before ++ x.entry ∷ [])
