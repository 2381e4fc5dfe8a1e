-- The notes of a trace are lines of its text and lines of its report, and nothing else.
use Rattle.std.proofs.Common.{◌≡◌, ℕ, ◌+◌, Bool, true, false, cond, not, nat_lt, List, [], ◌∷◌, ◌++◌, map, sym, ◌∙◌, ap, subst, refl, append_assoc}
use Rattle.std.specs.Prelude.{codes}
use Rattle.std.specs.Fmt.{decimal}
use Rattle.std.specs.List.{filter, flat_map, AllByRecursion as EachIs}
use Rattle.std.proofs.lemmas.Grind.{flat_map-append}
use Rattle.hm_outside.specs.declared.pages.Pages as pages
use Rattle.hm_report.specs.declared.notes.RoundNotes.{RoundNotes}
use Rattle.hm_report.specs.declared.results.Results.{Results}
use Rattle.hm_report.specs.Text.{notes_text, note_line, report_text, script_text, scripts_before, scripts_from, scripts_text}
use Rattle.hm_trace.specs.Spelling.{header, line_of, note_words, round_lines, script_lines, step_words, text_of, trace_lines}
use Rattle.hm_trace.specs.declared.version.Version.TheVariants.{One}
use Rattle.hm_trace.specs.VersionOne.{unnoted, unnoted_lines}
use Rattle.hm_trace.specs.Views.{StepView, Malloc, Calloc, Aligned, Realloc, Free, Sfree, Write, Read, Size, ScriptView, RoundView, TraceView, scripts_of}
use Rattle.hm_heap.specs.declared.close.Closed.{Closed}
use Rattle.hm_replay.specs.Replays.{AreReplayed}
use Rattle.hm_replay.specs.Rounds.{IsOfTrace}
use Rattle.hm_run.specs.declared.words.Options.{Options}
use Rattle.hm_run.specs.Endings.{notes_in}
use Rattle.hm_run.specs.Replayed.{IsReplayed}
use Rattle.hm_run.specs.Words.{config_of}
use Rattle.hm_laws.specs.Notes.{is_note, Piece, Note, Script, piece_text, is_script, notes_among, scripts_among, all_notes, without_notes, RunsWithoutNotes, ReportsWithoutNotes}

-- ---- the text of a trace
abbrev Line : Type 0
Line = List (List ℕ)

module _ {X : Type 0} (f : X → Bool) where
  pub kept_append : (xs ys : List X) → filter f (xs ++ ys) ≡ filter f xs ++ filter f ys
  kept_append [] ys = refl
  kept_append (x ∷ xs) ys = by (f x) (kept_append xs ys)
    where
      by : (b : Bool) → filter f (xs ++ ys) ≡ filter f xs ++ filter f ys → cond b (x ∷ filter f (xs ++ ys)) (filter f (xs ++ ys)) ≡ cond b (x ∷ filter f xs) (filter f xs) ++ filter f ys
      by true later = ap (λ (l : List X). x ∷ l) later
      by false later = later

no_notes : (notes : List (List ℕ)) → filter (λ (line : Line). not (is_note line)) (map note_words notes) ≡ []
no_notes [] = refl
no_notes (text ∷ notes) = no_notes notes

all_steps : (steps : List StepView) → filter (λ (line : Line). not (is_note line)) (map step_words steps) ≡ map step_words steps
all_steps [] = refl
all_steps (Malloc name size ∷ steps) = ap (λ (l : List Line). step_words (Malloc name size) ∷ l) (all_steps steps)
all_steps (Calloc name count size ∷ steps) = ap (λ (l : List Line). step_words (Calloc name count size) ∷ l) (all_steps steps)
all_steps (Aligned name align size ∷ steps) = ap (λ (l : List Line). step_words (Aligned name align size) ∷ l) (all_steps steps)
all_steps (Realloc name place size ∷ steps) = ap (λ (l : List Line). step_words (Realloc name place size) ∷ l) (all_steps steps)
all_steps (Free place ∷ steps) = ap (λ (l : List Line). step_words (Free place) ∷ l) (all_steps steps)
all_steps (Sfree place size ∷ steps) = ap (λ (l : List Line). step_words (Sfree place size) ∷ l) (all_steps steps)
all_steps (Write place len byte ∷ steps) = ap (λ (l : List Line). step_words (Write place len byte) ∷ l) (all_steps steps)
all_steps (Read place len ∷ steps) = ap (λ (l : List Line). step_words (Read place len) ∷ l) (all_steps steps)
all_steps (Size place ∷ steps) = ap (λ (l : List Line). step_words (Size place) ∷ l) (all_steps steps)

all_scripts : (scripts : List ScriptView) → filter (λ (line : Line). not (is_note line)) (flat_map script_lines scripts) ≡ flat_map script_lines scripts
all_scripts [] = refl
all_scripts (s ∷ scripts) =
    kept_append (λ (line : Line). not (is_note line)) (script_lines s) (flat_map script_lines scripts)
    ∙ ap (λ (l : List Line). ((codes "thread" ∷ decimal s.thread ∷ []) ∷ l) ++ filter (λ (line : Line). not (is_note line)) (flat_map script_lines scripts)) (all_steps s.steps)
    ∙ ap (λ (l : List Line). script_lines s ++ l) (all_scripts scripts)

all_rounds : (rounds : List RoundView) → filter (λ (line : Line). not (is_note line)) (trace_lines rounds) ≡ flat_map unnoted_lines (map (λ (r : RoundView). r.scripts) rounds)
all_rounds [] = refl
all_rounds (r ∷ rounds) =
    kept_append (λ (line : Line). not (is_note line)) (round_lines r) (trace_lines rounds)
    ∙ ap (λ (l : List Line). ((codes "round" ∷ []) ∷ l) ++ filter (λ (line : Line). not (is_note line)) (trace_lines rounds))
    (kept_append (λ (line : Line). not (is_note line)) (map note_words r.notes) (flat_map script_lines r.scripts)
    ∙ ap (λ (l : List Line). l ++ filter (λ (line : Line). not (is_note line)) (flat_map script_lines r.scripts)) (no_notes r.notes)
    ∙ all_scripts r.scripts)
    ∙ ap (λ (l : List Line). unnoted_lines r.scripts ++ l) (all_rounds rounds)

-- version 1 spells the same lines
spelled_lines : (rounds : List (List ScriptView)) → trace_lines (map unnoted rounds) ≡ flat_map unnoted_lines rounds
spelled_lines [] = refl
spelled_lines (scripts ∷ rounds) = ap (λ (l : List Line). unnoted_lines scripts ++ l) (spelled_lines rounds)

pub unnoted_text : (trace : TraceView) → text_of (header One ∷ map line_of (trace_lines (without_notes trace).rounds) ++ codes "end" ∷ [])
    ≡ text_of (header One ∷ map line_of (filter (λ line. not (is_note line)) (trace_lines trace.rounds)) ++ codes "end" ∷ [])
unnoted_text trace =
    ap (λ (l : List Line). text_of (header One ∷ map line_of l ++ codes "end" ∷ []))
    (spelled_lines (scripts_of trace) ∙ sym (all_rounds trace.rounds))

-- ---- a run
same_scripts : (rounds : List (List ScriptView)) → map (λ (r : RoundView). r.scripts) (map unnoted rounds) ≡ rounds
same_scripts [] = refl
same_scripts (scripts ∷ rounds) = ap (λ (l : List (List ScriptView)). scripts ∷ l) (same_scripts rounds)

module _ {P : Type 0} (meaning : pages.Ghosts P) (o : Options) (closed : Closed P) where
  replayed_as : (trace other : TraceView) (results : List Results) → scripts_of trace ≡ scripts_of other → IsReplayed meaning o closed trace results → IsReplayed meaning o closed other results
  replayed_as trace other results same r = record {
    ends = r.ends;
    names = r.names;
    rounds = subst (λ (rounds : List (List ScriptView)). AreReplayed (config_of o) closed.histories rounds results r.names) same r.rounds;
    entries = λ index h is. subst (λ (rounds : List (List ScriptView)). EachIs (IsOfTrace 1 1 rounds) h.entries) same (r.entries index h is);
  }

  pub runs_without : RunsWithoutNotes meaning o closed
  runs_without trace results = (
    replayed_as trace (without_notes trace) results (sym (same_scripts (scripts_of trace))),
    replayed_as (without_notes trace) trace results (same_scripts (scripts_of trace)),
  )

-- ---- a report
abbrev pieces_of : List RoundNotes → List Results → List Piece
pieces_of [] scripts = map Script scripts
pieces_of (round ∷ rounds) scripts =
    map Script (scripts_before round.round scripts) ++ (map (Note round.round) round.notes ++ pieces_of rounds (scripts_from round.round scripts))

split_scripts : (round : ℕ) (scripts : List Results) → scripts_before round scripts ++ scripts_from round scripts ≡ scripts
split_scripts round [] = refl
split_scripts round (s ∷ scripts) = by (nat_lt s.round round) (split_scripts round scripts)
  where
    by : (b : Bool) → scripts_before round scripts ++ scripts_from round scripts ≡ scripts
        → cond b (s ∷ scripts_before round scripts) [] ++ cond b (scripts_from round scripts) (s ∷ scripts) ≡ s ∷ scripts
    by true later = ap (λ (l : List Results). s ∷ l) later
    by false later = refl

-- of scripts alone, and of notes alone
script_pieces : (scripts : List Results) → flat_map piece_text (map Script scripts) ≡ scripts_text scripts
script_pieces [] = refl
script_pieces (s ∷ scripts) = ap (λ (l : List ℕ). script_text s ++ l) (script_pieces scripts)

note_pieces : (round : ℕ) (notes : List (List ℕ)) → flat_map piece_text (map (Note round) notes) ≡ flat_map (λ note. note_line round note) notes
note_pieces round [] = refl
note_pieces round (text ∷ notes) = ap (λ (l : List ℕ). note_line round text ++ l) (note_pieces round notes)

text_of_pieces : (rounds : List RoundNotes) (scripts : List Results) → report_text rounds scripts ≡ flat_map piece_text (pieces_of rounds scripts)
text_of_pieces [] scripts = sym (script_pieces scripts)
text_of_pieces (round ∷ rounds) scripts =
    append_assoc (scripts_text (scripts_before round.round scripts)) (notes_text round) (report_text rounds (scripts_from round.round scripts))
    ∙ ap (λ (l : List ℕ). scripts_text (scripts_before round.round scripts) ++ l)
    (ap (λ (l : List ℕ). notes_text round ++ l) (text_of_pieces rounds (scripts_from round.round scripts))
    ∙ ap (λ (l : List ℕ). l ++ flat_map piece_text (pieces_of rounds (scripts_from round.round scripts))) (sym (note_pieces round.round round.notes))
    ∙ sym (flat_map-append piece_text (map (Note round.round) round.notes) (pieces_of rounds (scripts_from round.round scripts))))
    ∙ ap (λ (l : List ℕ). l ++ flat_map piece_text (map (Note round.round) round.notes ++ pieces_of rounds (scripts_from round.round scripts))) (sym (script_pieces (scripts_before round.round scripts)))
    ∙ sym (flat_map-append piece_text (map Script (scripts_before round.round scripts)) (map (Note round.round) round.notes ++ pieces_of rounds (scripts_from round.round scripts)))

notes_in_scripts : (scripts : List Results) (pieces : List Piece) → notes_among (map Script scripts ++ pieces) ≡ notes_among pieces
notes_in_scripts [] pieces = refl
notes_in_scripts (s ∷ scripts) pieces = notes_in_scripts scripts pieces

notes_in_notes : (round : ℕ) (notes : List (List ℕ)) (pieces : List Piece) → notes_among (map (Note round) notes ++ pieces) ≡ map (λ (text : List ℕ). (round, text)) notes ++ notes_among pieces
notes_in_notes round [] pieces = refl
notes_in_notes round (text ∷ notes) pieces = ap (λ (l : List (ℕ × List ℕ)). (round, text) ∷ l) (notes_in_notes round notes pieces)

scripts_in_scripts : (scripts : List Results) (pieces : List Piece) → scripts_among (map Script scripts ++ pieces) ≡ scripts ++ scripts_among pieces
scripts_in_scripts [] pieces = refl
scripts_in_scripts (s ∷ scripts) pieces = ap (λ (l : List Results). s ∷ l) (scripts_in_scripts scripts pieces)

scripts_in_notes : (round : ℕ) (notes : List (List ℕ)) (pieces : List Piece) → scripts_among (map (Note round) notes ++ pieces) ≡ scripts_among pieces
scripts_in_notes round [] pieces = refl
scripts_in_notes round (text ∷ notes) pieces = scripts_in_notes round notes pieces

append_none : {X : Type 0} (l : List X) → l ++ [] ≡ l
append_none [] = refl
append_none {X} (x ∷ l) = ap (λ (m : List X). x ∷ m) (append_none l)

notes_of_pieces : (rounds : List RoundNotes) (scripts : List Results) → notes_among (pieces_of rounds scripts) ≡ all_notes rounds
notes_of_pieces [] scripts = ap notes_among (sym (append_none (map Script scripts))) ∙ notes_in_scripts scripts []
notes_of_pieces (round ∷ rounds) scripts =
    notes_in_scripts (scripts_before round.round scripts) (map (Note round.round) round.notes ++ pieces_of rounds (scripts_from round.round scripts))
    ∙ notes_in_notes round.round round.notes (pieces_of rounds (scripts_from round.round scripts))
    ∙ ap (λ (l : List (ℕ × List ℕ)). map (λ (text : List ℕ). (round.round, text)) round.notes ++ l) (notes_of_pieces rounds (scripts_from round.round scripts))

scripts_of_pieces : (rounds : List RoundNotes) (scripts : List Results) → scripts_among (pieces_of rounds scripts) ≡ scripts
scripts_of_pieces [] scripts = ap scripts_among (sym (append_none (map Script scripts))) ∙ scripts_in_scripts scripts [] ∙ append_none scripts
scripts_of_pieces (round ∷ rounds) scripts =
    scripts_in_scripts (scripts_before round.round scripts) (map (Note round.round) round.notes ++ pieces_of rounds (scripts_from round.round scripts))
    ∙ ap (λ (l : List Results). scripts_before round.round scripts ++ l)
    (scripts_in_notes round.round round.notes (pieces_of rounds (scripts_from round.round scripts)) ∙ scripts_of_pieces rounds (scripts_from round.round scripts))
    ∙ split_scripts round.round scripts

-- the lines of the results by themselves
by_themselves : (pieces : List Piece) → flat_map piece_text (filter is_script pieces) ≡ scripts_text (scripts_among pieces)
by_themselves [] = refl
by_themselves (Note round text ∷ pieces) = by_themselves pieces
by_themselves (Script s ∷ pieces) = ap (λ (l : List ℕ). script_text s ++ l) (by_themselves pieces)

unnoted_report : (number : ℕ) (rounds : List (List ScriptView)) (scripts : List Results) → report_text (notes_in number (map unnoted rounds)) scripts ≡ scripts_text scripts
unnoted_report number [] scripts = refl
unnoted_report number (round ∷ rounds) scripts =
    ap (λ (l : List ℕ). l ++ report_text (notes_in (number + 1) (map unnoted rounds)) (scripts_from number scripts)) (append_none (scripts_text (scripts_before number scripts)))
    ∙ ap (λ (l : List ℕ). scripts_text (scripts_before number scripts) ++ l) (unnoted_report (number + 1) rounds (scripts_from number scripts))
    ∙ sym (flat_map-append script_text (scripts_before number scripts) (scripts_from number scripts))
    ∙ ap scripts_text (split_scripts number scripts)

pub reports_without : {P : Type 0} (o : Options) (closed : Closed P) → ReportsWithoutNotes o closed
reports_without o closed trace results =
    let notes : List RoundNotes = notes_in 1 trace.rounds in
    record {
      pieces = pieces_of notes results;
      notes_are = notes_of_pieces notes results;
      results_are = scripts_of_pieces notes results;
      text_is = text_of_pieces notes results;
      other_is = unnoted_report 1 (scripts_of trace) results ∙ sym (by_themselves (pieces_of notes results) ∙ ap scripts_text (scripts_of_pieces notes results));
    }
