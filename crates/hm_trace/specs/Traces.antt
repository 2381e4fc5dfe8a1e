-- What steps, scripts, rounds and traces are.
use Rattle.std.specs.Prelude.{◌≡◌, ℕ, suc, ◌+◌, ◌≤◌, Bool, true, false, not, ◌&&◌, nat_lt, nat_le, List, [], ◌∷◌, ◌++◌, length, map, Option, Some, None, ℤ, pos, negsuc}
use Rattle.std.specs.List.{list_any, list_all, flat_map}
use Rattle.std.specs.Option.{option_map_or}
use Rattle.hm_trace.specs.Limits.{max_threads, most_threads, max_rounds, max_steps, max_notes, max_line, max_length, max_offset}
use Rattle.hm_trace.specs.declared.version.Version.{Version}
use Rattle.hm_trace.specs.Lines.{words_at, is_text}
use Rattle.hm_trace.specs.Names.{is_word, is_name}
use Rattle.hm_trace.specs.Views.{PlaceView, Null, At, Named, StepView, Malloc, Calloc, Aligned, Realloc, Free, Sfree, Write, Read, Size, ScriptView, RoundView, TraceView}

-- a size, a count, an alignment or an address
abbrev pub is_u64 : ℕ → Bool
is_u64 n = nat_le n 18446744073709551615

-- how many bytes are read or written
abbrev pub is_length : ℕ → Bool
is_length n = nat_le 1 n && nat_le n max_length

-- so many bytes up or down
abbrev pub is_offset : ℤ → Bool
is_offset (pos n) = nat_le n max_offset
is_offset (negsuc n) = nat_le (suc n) max_offset

-- null, an address, or a name with an offset
abbrev pub is_place : PlaceView → Bool
is_place Null = true
is_place (At address) = is_u64 address
is_place (Named name offset) = is_name name && is_offset offset

-- the names are names and the numbers are in their ranges
abbrev pub is_step : StepView → Bool
is_step (Malloc name size) = is_name name && is_u64 size
is_step (Calloc name count size) = is_name name && is_u64 count && is_u64 size
is_step (Aligned name align size) = is_name name && is_u64 align && is_u64 size
is_step (Realloc name place size) = is_name name && is_place place && is_u64 size
is_step (Free place) = is_place place
is_step (Sfree place size) = is_place place && is_u64 size
is_step (Write place len byte) = is_place place && is_length len && nat_le byte 255
is_step (Read place len) = is_place place && is_length len
is_step (Size place) = is_place place

-- the steps of a thread from 1 to 64
abbrev pub is_script : ScriptView → Bool
is_script s = nat_le 1 s.thread && nat_le s.thread most_threads && list_all is_step s.steps

-- the name that a step sets
abbrev pub name_set : StepView → Option (List ℕ)
name_set (Malloc name size) = Some name
name_set (Calloc name count size) = Some name
name_set (Aligned name align size) = Some name
name_set (Realloc name place size) = Some name
name_set _ = None

-- the step sets this name
abbrev pub sets_name : List ℕ → StepView → Bool
sets_name name s = option_map_or (λ n. is_word n name) (name_set s) false

-- one of the scripts sets this name
abbrev pub is_set : List ℕ → List ScriptView → Bool
is_set name scripts = list_any (λ s. list_any (sets_name name) s.steps) scripts

-- the step sets a name that one of the scripts sets
abbrev pub sets_again : List ScriptView → StepView → Bool
sets_again scripts s = option_map_or (λ n. is_set n scripts) (name_set s) false

-- no step sets a name that one of the scripts sets
abbrev pub avoids : List ScriptView → List StepView → Bool
avoids scripts steps = list_all (λ s. not (sets_again scripts s)) steps

-- scripts after those `before`: their threads ascend from above `last`, and none sets a name that an earlier one sets
abbrev pub are_scripts : List ScriptView → ℕ → List ScriptView → Bool
are_scripts before last [] = true
are_scripts before last (s ∷ ss) =
    nat_lt last s.thread && is_script s && avoids before s.steps && are_scripts (before ++ s ∷ []) s.thread ss

-- the scripts of a round
abbrev pub is_round : List ScriptView → Bool
is_round scripts = are_scripts [] 0 scripts

-- how many steps the scripts of rounds have in all
abbrev pub total_steps : List (List ScriptView) → ℕ
total_steps rounds = length (flat_map (λ (scripts : List ScriptView). flat_map (λ s. s.steps) scripts) rounds)

-- how many steps there are in all
abbrev pub step_count : List RoundView → ℕ
step_count rounds = total_steps (map (λ (r : RoundView). r.scripts) rounds)

-- how many notes there are in all
abbrev pub note_count : List RoundView → ℕ
note_count rounds = length (flat_map (λ (r : RoundView). r.notes) rounds)

-- no thread of these scripts is above this one
abbrev pub are_up_to : ℕ → List ScriptView → Bool
are_up_to most scripts = list_all (λ s. nat_le s.thread most) scripts

-- a visible byte
abbrev pub is_graphic : ℕ → Bool
is_graphic c = nat_le 33 c && nat_le c 126

-- words of visible bytes with one space between them, so many that the line `note TEXT` has at most 256 bytes
abbrev pub is_note : List ℕ → Bool
is_note text = is_text (words_at text) && list_all (λ w. list_all is_graphic w) (words_at text)
    && nat_le (5 + length text) max_line

-- a round of a trace of this version
abbrev pub is_round_of : Version → RoundView → Bool
is_round_of version round = is_round round.scripts && are_up_to (max_threads version) round.scripts
    && list_all is_note round.notes

-- a trace has at most 1,024 rounds; in version 1 threads up to 16, at most 200,000 steps and no notes, and in
-- version 2 threads up to 64, at most 400,000 steps and at most 1,024 notes
pub record IsTrace (trace : TraceView) : Type 0 where
  pub each : list_all (is_round_of trace.version) trace.rounds ≡ true
  pub rounds_fit : length trace.rounds ≤ max_rounds
  pub steps_fit : step_count trace.rounds ≤ max_steps trace.version
  pub notes_fit : note_count trace.rounds ≤ max_notes trace.version
