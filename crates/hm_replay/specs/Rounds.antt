-- The rounds of a trace over all histories.
use Rattle.std.specs.Prelude.{◌≡◌, ℕ, ◌+◌, ◌<◌, ◌≤◌, ◌⊎◌, List, [], ◌∷◌, ◌++◌, length, map, slice_index_or, ⊤}
use Rattle.hm_model.specs.declared.entry.Entry.{Entry}
use Rattle.hm_model.specs.declared.entry.Who.{Who}
use Rattle.hm_model.specs.Entries.{calls_of}
use Rattle.hm_report.specs.declared.results.Results.{Results}
use Rattle.hm_sizes.specs.declared.config.Config.{Config}
use Rattle.hm_trace.specs.Views.{ScriptView}
use Rattle.hm_heap.specs.declared.close.History.{History}
use Rattle.hm_replay.specs.Names.{Names, settled}
use Rattle.hm_replay.specs.Scripts.{IsFront, RunsAllSteps}
use Rattle.hm_replay.specs.Steps.{Terms}
use Rattle.hm_replay.specs.Uses.{Own}

-- ---- the scripts of a round
-- the script was run with the names before the round, and the rest goes on with those that it set among the others
pub record RunsScript (t : Terms) (own : Own) (names now : Names) (s : ScriptView) (results : List Results)
    (Rest : Names → List Results → Type 0) : Type 0 where
  pub result : Results
  pub later : List Results
  pub results_are : results ≡ result ∷ later
  pub round_is : result.round ≡ t.round
  pub thread_is : result.thread ≡ t.thread
  pub last : Names
  pub run : RunsAllSteps t names s.steps result.items last own
  pub rest : Rest (settled now s.steps last) later

module _ (c : Config) (own : ℕ → Own) where
  -- the scripts from this caller on: each begins with the names before the round, and at the end all its names are set
  abbrev pub RunsRound : ℕ → ℕ → Names → Names → List ScriptView → List Results → Names → Type 0
  RunsRound caller round names now [] results after = (results ≡ []) × (after ≡ now)
  RunsRound caller round names now (s ∷ scripts) results after =
      RunsScript (record { config = c; caller = caller; round = round; thread = s.thread }) (own caller) names now s
      results (λ next later. RunsRound (caller + 1) round names next scripts later after)

  -- the scripts from this caller on, each begun with these names: all entries of its caller are those of a front of it
  abbrev pub AreFronts : ℕ → ℕ → Names → List ScriptView → Type 0
  AreFronts caller round names [] = ⊤
  AreFronts caller round names (s ∷ scripts) =
      ((last : Names) × IsFront (record { config = c; caller = caller; round = round; thread = s.thread }) names s.steps
      last (own caller)) × AreFronts (caller + 1) round names scripts

  -- ---- the rounds of a trace
  -- the round was run with these names, and the rest goes on with the names after it
  pub record RunsNext (caller round : ℕ) (names : Names) (scripts : List ScriptView) (results : List Results)
      (Rest : Names → List Results → Type 0) : Type 0 where
    pub these : List Results
    pub later : List Results
    pub results_are : results ≡ these ++ later
    pub after : Names
    pub this : RunsRound caller round names names scripts these after
    pub rest : Rest after later

  -- the rounds from this number on, whose callers follow one another, and the names at the end
  abbrev pub RunsRounds : ℕ → ℕ → Names → List (List ScriptView) → List Results → Names → Type 0
  RunsRounds caller round names [] results last = (results ≡ []) × (last ≡ names)
  RunsRounds caller round names (scripts ∷ rounds) results last =
      RunsNext caller round names scripts results
      (λ after later. RunsRounds (caller + length scripts) (round + 1) after rounds later last)

-- how many scripts there are in all
abbrev pub script_count : List (List ScriptView) → ℕ
script_count [] = 0
script_count (scripts ∷ rounds) = length scripts + script_count rounds

-- ---- the histories
-- the entries of a caller over all histories
abbrev pub own_in : List History → ℕ → Own
own_in hs caller index = calls_of (slice_index_or (map (λ (h : History). h.entries) hs) index []) caller

-- each entry is of one of so many callers, from the first on
abbrev pub AreOfCallers : ℕ → ℕ → List Entry → Type 0
AreOfCallers first count [] = ⊤
AreOfCallers first count (e ∷ entries) =
    (first ≤ e.who.caller) × (e.who.caller < first + count) × AreOfCallers first count entries

-- a history falls into one part for each round, one after another: a part has entries of its round's callers alone
abbrev pub InRounds : ℕ → List (List ScriptView) → List Entry → Type 0
InRounds caller [] entries = entries ≡ []
InRounds caller (scripts ∷ rounds) entries =
    (these : List Entry) × (later : List Entry) × (entries ≡ these ++ later)
    × AreOfCallers caller (length scripts) these × InRounds (caller + length scripts) rounds later

-- the entry is of one of the steps of this script
pub record IsOfScript (caller round : ℕ) (s : ScriptView) (who : Who) : Type 0 where
  pub caller_is : who.caller ≡ caller
  pub round_is : who.round ≡ round
  pub thread_is : who.thread ≡ s.thread
  pub step_least : 1 ≤ who.step
  pub step_most : who.step ≤ length s.steps

-- of one of these scripts, whose callers follow one another
abbrev pub IsOfRound : ℕ → ℕ → List ScriptView → Entry → Type 0
IsOfRound caller round [] e = ⊥
IsOfRound caller round (s ∷ scripts) e = IsOfScript caller round s e.who ⊎ IsOfRound (caller + 1) round scripts e

abbrev pub IsOfTrace : ℕ → ℕ → List (List ScriptView) → Entry → Type 0
IsOfTrace caller round [] e = ⊥
IsOfTrace caller round (scripts ∷ rounds) e =
    IsOfRound caller round scripts e ⊎ IsOfTrace (caller + length scripts) (round + 1) rounds e
