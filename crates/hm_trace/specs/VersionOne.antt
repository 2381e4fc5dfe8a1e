-- Version 1 of the text by itself: which rounds of scripts are its traces, and how they are spelled.
use Rattle.std.specs.Prelude.{◌≡◌, ℕ, ◌≤◌, true, List, [], ◌∷◌, ◌++◌, length, map, codes}
use Rattle.std.specs.List.{list_all, flat_map}
use Rattle.hm_trace.specs.declared.version.Version.TheVariants.{One}
use Rattle.hm_trace.specs.Spelling.{line_of, script_lines, text_of}
use Rattle.hm_trace.specs.Traces.{are_up_to, is_round, total_steps}
use Rattle.hm_trace.specs.Views.{RoundView, ScriptView, TraceView}

-- at most 1,024 rounds of scripts, of threads up to 16, with at most 200,000 steps in all
pub record AreRoundsOfOne (rounds : List (List ScriptView)) : Type 0 where
  pub each : list_all is_round rounds ≡ true
  pub threads : list_all (are_up_to 16) rounds ≡ true
  pub rounds_fit : length rounds ≤ 1024
  pub steps_fit : total_steps rounds ≤ 200000

-- the lines of a round, each as its words
abbrev pub unnoted_lines : List ScriptView → List (List (List ℕ))
unnoted_lines scripts = (codes "round" ∷ []) ∷ flat_map script_lines scripts

-- the text: the header, the lines of the rounds, and the end
abbrev pub unnoted_spelling : List (List ScriptView) → List ℕ
unnoted_spelling rounds = text_of (codes "hmtrace 1" ∷ map line_of (flat_map unnoted_lines rounds) ++ codes "end" ∷ [])

-- a round without notes
abbrev pub unnoted : List ScriptView → RoundView
unnoted scripts = record { notes = []; scripts = scripts }

-- these rounds as a trace
abbrev pub unnoted_trace : List (List ScriptView) → TraceView
unnoted_trace rounds = record { version = One; rounds = map unnoted rounds }
