-- A report tells a finding exactly where an answer is one.
use Rattle.std.proofs.Common.{◌≡◌, ℕ, ◌+◌, ◌==◌, nat_lt, not, Bool, true, false, cond, ◌||◌, List, [], ◌∷◌, ◌++◌, append_assoc, append-nil, Option, Some, None, refl, ap, sym, ◌∙◌, codes, true≢false}
use Rattle.std.proofs.lemmas.Bool.{and_parts}
use Rattle.std.proofs.lemmas.List.Elements.{All-from_recursion}
use Rattle.std.proofs.lemmas.List.Splits.{slice_split_at}
use Rattle.std.specs.Fmt.{decimal}
use Rattle.std.specs.List.{list_all, list_any, flat_map, AllByRecursion}
use Rattle.hm_model.specs.declared.entry.Reply.{Reply}
use Rattle.hm_model.specs.declared.entry.Reply.TheVariants as reply
use Rattle.hm_model.specs.declared.answer.Answer.{Answer}
use Rattle.hm_model.specs.declared.answer.Answer.TheVariants as answer
use Rattle.hm_report.specs.declared.results.StepResult.{StepResult}
use Rattle.hm_report.specs.declared.results.Results.{Results}
use Rattle.hm_report.specs.Findings.{is_finding_reply, is_finding_answer, is_answered_finding, is_finding, is_found_in, has_finding}
use Rattle.hm_report.specs.Marks.{is_marked, behind_space, tells_finding, is_one_line, are_lines, FindingsShow}
use Rattle.hm_report.specs.Text.{reply_text, answer_text, answered_text, result_text, line_text, lines_text, script_text, scripts_text, note_line, notes_text, scripts_before, scripts_from, report_text}
use Rattle.hm_report.proofs.OneLines.{append_line, decimal_line, decimal_behind, result_line}

-- ---- the text of an answer is marked exactly where it is a finding
marked_reply : (base : ℕ) (r : Reply) → is_marked (reply_text base r) ≡ is_finding_reply r
marked_reply base (reply.Given addr usable) = refl
marked_reply base (reply.Overwritten addr at found) = refl
marked_reply base reply.Exhausted = refl
marked_reply base reply.NoSpace = refl
marked_reply base reply.PagesFailed = refl
marked_reply base reply.Freed = refl
marked_reply base reply.NoSlot = refl
marked_reply base reply.Unused = refl
marked_reply base reply.DoubleFree = refl
marked_reply base (reply.WrongSize block stated) = refl
marked_reply base (reply.Canary kept found) = refl
marked_reply base (reply.Usable size) = refl
marked_reply base (reply.Bytes runs) = refl
marked_reply base reply.Filled = refl
marked_reply base (reply.Trap addr) = refl
marked_reply base reply.NotLive = refl

marked_answer : (base : ℕ) (a : Answer) → is_marked (answer_text base a) ≡ is_finding_answer a
marked_answer base (answer.Reply r) = marked_reply base r
marked_answer base answer.Overflow = refl
marked_answer base answer.BadAlignment = refl
marked_answer base answer.TooLarge = refl
marked_answer base answer.Outside = refl
marked_answer base answer.Busy = refl
marked_answer base (answer.HalfMoved addr usable cause) = refl
marked_answer base (answer.Kept addr usable) = refl
marked_answer base answer.Nothing = refl

marked_answered : (base : ℕ) (a : Option Answer) → is_marked (answered_text base a) ≡ is_answered_finding a
marked_answered base None = refl
marked_answered base (Some a) = marked_answer base a

-- ---- lines
none_true : (b : Bool) → not b ≡ true → b ≡ false
none_true true h = absurd (true≢false (sym h))
none_true false h = refl

no_feeds : (bytes : List ℕ) → is_one_line bytes ≡ true → AllByRecursion (λ b. (b == 10) ≡ false) bytes
no_feeds [] h = tt
no_feeds (b ∷ bytes) h =
    let parts = and_parts (not (b == 10)) (is_one_line bytes) h in
    (none_true (b == 10) parts.0, no_feeds bytes parts.1)

abbrev is_marked_line : List ℕ → Bool
is_marked_line line = is_marked (behind_space line)

line_tells : (line rest : List ℕ) → is_one_line line ≡ true
    → tells_finding (line ++ 10 ∷ rest) ≡ (is_marked_line line || tells_finding rest)
line_tells line rest h =
    ap (list_any is_marked_line) (slice_split_at (λ b. b == 10) line 10 rest (All-from_recursion _ line (no_feeds line h)) refl)

or_three : (a b c : Bool) → (a || (b || c)) ≡ ((a || b) || c)
or_three true b c = refl
or_three false b c = refl

or_none : (a : Bool) → (a || false) ≡ a
or_none true = refl
or_none false = refl

-- ---- the line of a step
step_tells : (round thread number : ℕ) (step : StepResult) (rest : List ℕ)
    → tells_finding (line_text round thread number step ++ rest) ≡ (is_finding step || tells_finding rest)
step_tells round thread number step rest =
    let text : List ℕ = result_text step in
    let first : List ℕ = decimal round ++ 46 ∷ decimal thread in
    let front : List ℕ = first ++ 46 ∷ decimal number in
    let line : List ℕ = front ++ 32 ∷ text in
    let one : is_one_line line ≡ true =
    append_line front (32 ∷ text)
    (append_line first (46 ∷ decimal number)
    (append_line (decimal round) (46 ∷ decimal thread) (decimal_line round) (decimal_line thread)) (decimal_line number))
    (result_line step) in
    let third : List ℕ = (46 ∷ decimal number) ++ 32 ∷ text in
    let behind : behind_space line ≡ text =
    ap behind_space (append_assoc first (46 ∷ decimal number) (32 ∷ text) ∙ append_assoc (decimal round) (46 ∷ decimal thread) third)
    ∙ (decimal_behind round ((46 ∷ decimal thread) ++ third)
    ∙ (decimal_behind thread third ∙ decimal_behind number (32 ∷ text))) in
    ap tells_finding (append_assoc line (10 ∷ []) rest)
    ∙ (line_tells line rest one
    ∙ ap (λ b. b || tells_finding rest) (ap is_marked behind ∙ marked_answered step.base step.answer))

lines_tell : (round thread number : ℕ) (steps : List StepResult) (rest : List ℕ)
    → tells_finding (lines_text round thread number steps ++ rest) ≡ (list_any is_finding steps || tells_finding rest)
lines_tell round thread number [] rest = refl
lines_tell round thread number (step ∷ steps) rest =
    let later : List ℕ = lines_text round thread (number + 1) steps in
    ap tells_finding (append_assoc (line_text round thread number step) later rest)
    ∙ (step_tells round thread number step (later ++ rest)
    ∙ (ap (λ b. is_finding step || b) (lines_tell round thread (number + 1) steps rest)
    ∙ or_three (is_finding step) (list_any is_finding steps) (tells_finding rest)))

scripts_tell : (scripts : List Results) (rest : List ℕ)
    → tells_finding (scripts_text scripts ++ rest) ≡ (has_finding scripts || tells_finding rest)
scripts_tell [] rest = refl
scripts_tell (script ∷ scripts) rest =
    ap tells_finding (append_assoc (script_text script) (scripts_text scripts) rest)
    ∙ (lines_tell script.round script.thread 1 script.items (scripts_text scripts ++ rest)
    ∙ (ap (λ b. is_found_in script || b) (scripts_tell scripts rest)
    ∙ or_three (is_found_in script) (has_finding scripts) (tells_finding rest)))

-- ---- the lines of notes tell none
note_tells : (round : ℕ) (note rest : List ℕ) → is_one_line note ≡ true
    → tells_finding (note_line round note ++ rest) ≡ tells_finding rest
note_tells round note rest one =
    let front : List ℕ = decimal round ++ codes " note " in
    let line : List ℕ = front ++ note in
    ap tells_finding (append_assoc line (10 ∷ []) rest)
    ∙ (line_tells line rest
    (append_line front note (append_line (decimal round) (codes " note ") (decimal_line round) refl) one)
    ∙ ap (λ b. b || tells_finding rest)
    (ap is_marked (ap behind_space (append_assoc (decimal round) (codes " note ") note) ∙ decimal_behind round (codes " note " ++ note))))

notes_tell : (round : ℕ) (notes : List (List ℕ)) (rest : List ℕ) → list_all is_one_line notes ≡ true
    → tells_finding (flat_map (λ note. note_line round note) notes ++ rest) ≡ tells_finding rest
notes_tell round [] rest h = refl
notes_tell round (note ∷ notes) rest h =
    let parts = and_parts (is_one_line note) (list_all is_one_line notes) h in
    let later : List ℕ = flat_map (λ note. note_line round note) notes in
    ap tells_finding (append_assoc (note_line round note) later rest)
    ∙ (note_tells round note (later ++ rest) parts.0 ∙ notes_tell round notes rest parts.1)

-- ---- reports
-- the scripts before a round and those from it on are all
cut_findings : (round : ℕ) (scripts : List Results)
    → (has_finding (scripts_before round scripts) || has_finding (scripts_from round scripts)) ≡ has_finding scripts
cut_findings round [] = refl
cut_findings round (script ∷ scripts) = by (nat_lt script.round round) (cut_findings round scripts)
  where
    by : (b : Bool)
        → (has_finding (scripts_before round scripts) || has_finding (scripts_from round scripts)) ≡ has_finding scripts
        → (has_finding (cond b (script ∷ scripts_before round scripts) []) || has_finding (cond b (scripts_from round scripts) (script ∷ scripts)))
        ≡ has_finding (script ∷ scripts)
    by true rest =
        sym (or_three (is_found_in script) (has_finding (scripts_before round scripts)) (has_finding (scripts_from round scripts)))
        ∙ ap (λ b. is_found_in script || b) rest
    by false rest = refl

pub report_tells : FindingsShow
report_tells [] scripts h =
    ap tells_finding (sym (append-nil (scripts_text scripts))) ∙ (scripts_tell scripts [] ∙ or_none (has_finding scripts))
report_tells (round ∷ rounds) scripts h =
    let parts = and_parts (list_all is_one_line round.notes) (are_lines rounds) h in
    let before : List Results = scripts_before round.round scripts in
    let from : List Results = scripts_from round.round scripts in
    ap tells_finding (append_assoc (scripts_text before) (notes_text round) (report_text rounds from))
    ∙ (scripts_tell before (notes_text round ++ report_text rounds from)
    ∙ (ap (λ b. has_finding before || b)
    (notes_tell round.round round.notes (report_text rounds from) parts.0 ∙ report_tells rounds from parts.1)
    ∙ cut_findings round.round scripts))
