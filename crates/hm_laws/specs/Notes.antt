-- What the notes of a trace change: lines of its text, and lines of its report.
use Rattle.std.specs.Prelude.{◌≡◌, ◌↔◌, ℕ, Bool, true, false, not, List, [], ◌∷◌, ◌++◌, map, codes}
use Rattle.std.specs.List.{filter, flat_map}
use Rattle.hm_outside.specs.declared.pages.Pages as pages
use Rattle.hm_report.specs.declared.notes.RoundNotes.{RoundNotes}
use Rattle.hm_report.specs.declared.results.Results.{Results}
use Rattle.hm_report.specs.Text.{note_line, script_text}
use Rattle.hm_trace.specs.declared.version.Version.TheVariants.{One}
use Rattle.hm_trace.specs.Names.{is_word}
use Rattle.hm_trace.specs.Spelling.{header, line_of, spelling, text_of, trace_lines}
use Rattle.hm_trace.specs.Traces.{IsTrace}
use Rattle.hm_trace.specs.VersionOne.{AreRoundsOfOne, unnoted_trace}
use Rattle.hm_trace.specs.Views.{TraceView, scripts_of}
use Rattle.hm_heap.specs.declared.close.Closed.{Closed}
use Rattle.hm_run.specs.declared.words.Options.{Options}
use Rattle.hm_run.specs.declared.words.Output.TheVariants.{Report}
use Rattle.hm_run.specs.Endings.{notes_in, output_text}
use Rattle.hm_run.specs.Replayed.{IsReplayed}

-- the trace of version 1 with the same scripts
abbrev pub without_notes : TraceView → TraceView
without_notes trace = unnoted_trace (scripts_of trace)

-- ---- the text of a trace
-- the line, which is given as its words, is that of a note
abbrev pub is_note : List (List ℕ) → Bool
is_note [] = false
is_note (word ∷ words) = is_word word (codes "note")

-- the text of version 1 is that of version 2 with the first line of version 1 and without the notes' lines; it is a trace
-- where its scripts may stand in version 1
pub record IsUnnoted (trace : TraceView) : Type 0 where
  pub text : spelling (without_notes trace)
      ≡ text_of (header One ∷ map line_of (filter (λ line. not (is_note line)) (trace_lines trace.rounds)) ++ codes "end" ∷ [])
  pub is_trace : AreRoundsOfOne (scripts_of trace) → IsTrace (without_notes trace)

-- ---- the text of a report
-- a piece of it: the line of a note, or the lines of a script's results
pub data Piece : Type 0 where
  Note : (round : ℕ) (text : List ℕ) → Piece
  Script : (results : Results) → Piece

abbrev pub piece_text : Piece → List ℕ
piece_text (Note round text) = note_line round text
piece_text (Script results) = script_text results

abbrev pub is_script : Piece → Bool
is_script (Note round text) = false
is_script (Script results) = true

-- the notes' lines among these, and the results
abbrev pub notes_among : List Piece → List (ℕ × List ℕ)
notes_among [] = []
notes_among (Note round text ∷ pieces) = (round, text) ∷ notes_among pieces
notes_among (Script results ∷ pieces) = notes_among pieces

abbrev pub scripts_among : List Piece → List Results
scripts_among [] = []
scripts_among (Note round text ∷ pieces) = scripts_among pieces
scripts_among (Script results ∷ pieces) = results ∷ scripts_among pieces

-- each note with its round
abbrev pub all_notes : List RoundNotes → List (ℕ × List ℕ)
all_notes rounds = flat_map (λ (r : RoundNotes). map (λ (text : List ℕ). (r.round, text)) r.notes) rounds

-- a text is these pieces: the lines of the notes in their order, between the lines of the results in their order, which
-- by themselves are the other text
pub record Interleaves (notes : List RoundNotes) (results : List Results) (text other : List ℕ) : Type 0 where
  pub pieces : List Piece
  pub notes_are : notes_among pieces ≡ all_notes notes
  pub results_are : scripts_among pieces ≡ results
  pub text_is : text ≡ flat_map piece_text pieces
  pub other_is : other ≡ flat_map piece_text (filter is_script pieces)

-- ---- laws
abbrev pub TextsWithoutNotes : Type 0
TextsWithoutNotes = (trace : TraceView) → IsUnnoted trace

-- the same histories and results come of a trace and of the one without its notes
abbrev pub RunsWithoutNotes : {P : Type 0} → pages.Ghosts P → Options → Closed P → Type 0
RunsWithoutNotes {P} meaning o closed = (trace : TraceView) (results : List Results)
    → IsReplayed meaning o closed trace results ↔ IsReplayed meaning o closed (without_notes trace) results

-- and the report of the one is that of the other with the notes' lines between
abbrev pub ReportsWithoutNotes : {P : Type 0} → Options → Closed P → Type 0
ReportsWithoutNotes {P} o closed = (trace : TraceView) (results : List Results)
    → Interleaves (notes_in 1 trace.rounds) results
    (output_text o Report trace closed results) (output_text o Report (without_notes trace) closed results)
