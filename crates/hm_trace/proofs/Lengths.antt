-- The spelling of a trace is short: its lines are few, and each of them is short.
use Rattle.std.proofs.Common.{◌≡◌, ℕ, ◌+◌, ◌*◌, ◌≤◌, true, List, [], ◌∷◌, ◌++◌, length, map, codes, ◌∙◌, ap, arith, length-append}
use Rattle.std.specs.List.{list_all, flat_map}
use Rattle.std.proofs.lemmas.List.{map-append}
use Rattle.std.proofs.lemmas.Grind.{flat_map-append}
use Rattle.std.proofs.lemmas.Bool.{and_parts}
use Rattle.hm_trace.specs.declared.version.Version.{Version}
use Rattle.hm_trace.specs.declared.version.Version.TheVariants.{One, Two}
use Rattle.hm_trace.specs.Spelling.{header, line_of, lines_text, note_words, round_lines, script_lines, spelling, step_words, text_of, trace_lines}
use Rattle.hm_trace.specs.Traces.{IsTrace, are_scripts, is_note, is_round_of, is_script, is_step, note_count, step_count}
use Rattle.hm_trace.specs.Views.{RoundView, ScriptView, StepView, TraceView}
use Rattle.hm_trace.proofs.Fits.{step_fits}
use Rattle.hm_trace.proofs.Notes.{note_line}
use Rattle.hm_trace.proofs.Scripts.{round_parts, steps_valid, thread_range}
use Rattle.hm_trace.proofs.Stays.{test_follows}
use Rattle.hm_trace.proofs.Versions.{few_notes, few_steps}
use Rattle.hm_trace.proofs.Written.{IsLine, round_line, step_short, thread_line}

-- a line adds its bytes and its line feed
line_is : (words : List (List ℕ)) (more : List (List (List ℕ)))
    → length (lines_text (words ∷ more)) ≡ length (line_of words) + 1 + length (lines_text more)
line_is words more =
    omega (
      arith,
      length-append (line_of words ++ 10 ∷ []) (lines_text more),
      length-append (line_of words) (10 ∷ []),
    )

-- a line has at most 256 bytes
line_adds : (words : List (List ℕ)) (more : List (List (List ℕ))) → IsLine words
    → length (lines_text (words ∷ more)) ≤ 257 + length (lines_text more)
line_adds words more h = omega (arith, h.short, line_is words more)

appended : (some more : List (List (List ℕ)))
    → length (lines_text (some ++ more)) ≡ length (lines_text some) + length (lines_text more)
appended some more =
    ap (λ (l : List (List ℕ)). length (text_of l)) (map-append line_of some more)
    ∙ ap (λ (t : List ℕ). length t)
    (flat_map-append (λ (l : List ℕ). l ++ 10 ∷ []) (map line_of some) (map line_of more))
    ∙ length-append (lines_text some) (lines_text more)

steps_short : (steps : List StepView) → list_all is_step steps ≡ true
    → length (lines_text (map step_words steps)) ≤ 116 * length steps
steps_short [] h = omega arith
steps_short (s ∷ steps) h =
    let b = and_parts (is_step s) (list_all is_step steps) h in
    omega (
      arith,
      line_is (step_words s) (map step_words steps),
      step_short s (step_fits s b.0),
      steps_short steps b.1,
    )

script_short : (s : ScriptView) → is_script s ≡ true → length (lines_text (script_lines s)) ≤ 257 + 116 * length s.steps
script_short s h =
    omega (
      arith,
      line_adds _ (map step_words s.steps) (thread_line s.thread (thread_range s h).1),
      steps_short s.steps (steps_valid s h),
    )

-- how many steps the scripts have in all
abbrev pub total : List ScriptView → ℕ
total scripts = length (flat_map (λ (s : ScriptView). s.steps) scripts)

-- threads ascend to 64, so there are at most 64 scripts
scripts_short : (before : List ScriptView) (last : ℕ) (scripts : List ScriptView) → last ≤ 64
    → are_scripts before last scripts ≡ true
    → length (lines_text (flat_map script_lines scripts)) + 257 * last ≤ 257 * 64 + 116 * total scripts
scripts_short before last [] small h = omega arith
scripts_short before last (s ∷ scripts) small h =
    let t = test_follows before last s (are_scripts (before ++ s ∷ []) s.thread scripts) h in
    let thread : s.thread ≤ 64 = (thread_range s t.0.fits).1 in
    let rest = scripts_short (before ++ s ∷ []) s.thread scripts thread t.1 in
    let steps = length-append s.steps (flat_map (λ (x : ScriptView). x.steps) scripts) in
    omega (
      arith,
      t.0.later,
      appended (script_lines s) (flat_map script_lines scripts),
      script_short s t.0.fits,
      rest,
      steps,
    )

-- a note's line is a line
notes_short : (notes : List (List ℕ)) → list_all is_note notes ≡ true
    → length (lines_text (map note_words notes)) ≤ 257 * length notes
notes_short [] h = omega arith
notes_short (n ∷ notes) h =
    let b = and_parts (is_note n) (list_all is_note notes) h in
    omega (arith, line_adds (note_words n) (map note_words notes) (note_line n b.0), notes_short notes b.1)

round_short : (v : Version) (r : RoundView) → is_round_of v r ≡ true
    → length (lines_text (round_lines r)) ≤ 257 * 65 + 257 * length r.notes + 116 * total r.scripts
round_short v r h =
    let is = round_parts v r h in
    omega (
      arith,
      line_adds _ (map note_words r.notes ++ flat_map script_lines r.scripts) round_line,
      appended (map note_words r.notes) (flat_map script_lines r.scripts),
      notes_short r.notes is.notes,
      scripts_short [] 0 r.scripts (omega arith) is.scripts,
    )

rounds_short : (v : Version) (rounds : List RoundView) → list_all (is_round_of v) rounds ≡ true
    → length (lines_text (trace_lines rounds))
    ≤ 257 * (65 * length rounds) + 257 * note_count rounds + 116 * step_count rounds
rounds_short v [] h = omega arith
rounds_short v (r ∷ rounds) h =
    let b = and_parts (is_round_of v r) (list_all (is_round_of v) rounds) h in
    let steps : List ScriptView → List StepView = λ x. flat_map (λ (s : ScriptView). s.steps) x in
    let notes : RoundView → List (List ℕ) = λ x. x.notes in
    omega (
      arith,
      appended (round_lines r) (trace_lines rounds),
      round_short v r b.0,
      rounds_short v rounds b.1,
      length-append (steps r.scripts) (flat_map steps (map (λ (x : RoundView). x.scripts) rounds)),
      length-append (notes r) (flat_map notes rounds),
    )

header_short : (v : Version) → length (header v ++ 10 ∷ []) ≤ 10
header_short One = omega arith
header_short Two = omega arith

-- the first line, the rounds, and the last line
pub short : (trace : TraceView) → IsTrace trace → length (spelling trace) ≤ 67108864
short trace h =
    let lines = trace_lines trace.rounds in
    let end = text_of (codes "end" ∷ []) in
    let parts : length (text_of (map line_of lines ++ codes "end" ∷ [])) ≡ length (lines_text lines) + length end =
    ap (λ (t : List ℕ). length t)
    (flat_map-append (λ (l : List ℕ). l ++ 10 ∷ []) (map line_of lines) (codes "end" ∷ []))
    ∙ length-append (lines_text lines) end in
    omega (
      arith,
      parts,
      length-append (header trace.version ++ 10 ∷ []) (text_of (map line_of lines ++ codes "end" ∷ [])),
      rounds_short trace.version trace.rounds h.each,
      h.rounds_fit,
      h.steps_fit,
      h.notes_fit,
      few_steps trace.version,
      few_notes trace.version,
      header_short trace.version,
    )
