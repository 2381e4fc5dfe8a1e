-- No note of a trace has a line feed.
use Rattle.std.proofs.Common.{◌≡◌, ℕ, ◌+◌, ◌==◌, nat_le, not, Bool, true, false, cond, ◌&&◌, List, [], ◌∷◌, refl, ap, ◌∙◌, arith}
use Rattle.std.specs.List.{list_all, slice_split, onto_first}
use Rattle.std.proofs.lemmas.Bool.{and_parts}
use Rattle.std.proofs.lemmas.Bool.Decides.{nat_tests}
use Rattle.hm_report.specs.Marks.{is_one_line, are_lines}
use Rattle.hm_trace.specs.declared.version.Version.{Version}
use Rattle.hm_trace.specs.Lines.{is_text, words_at}
use Rattle.hm_trace.specs.Limits.{max_threads}
use Rattle.hm_trace.specs.Traces.{is_graphic, is_note, is_round, are_up_to, is_round_of}
use Rattle.hm_trace.specs.Views.{RoundView}
use Rattle.hm_run.specs.Endings.{notes_in}

both : (a b : Bool) → a ≡ true → b ≡ true → (a && b) ≡ true
both a b first second = ap (λ x. x && b) first ∙ second

visible_no_feed : (b : ℕ) → nat_le 33 b ≡ true → not (b == 10) ≡ true
visible_no_feed b h = grind (arith, nat_tests)

space_no_feed : (b : ℕ) → (b == 32) ≡ true → not (b == 10) ≡ true
space_no_feed b h = grind (arith, nat_tests)

graphic_no_feed : (b : ℕ) → is_graphic b ≡ true → not (b == 10) ≡ true
graphic_no_feed b h = visible_no_feed b (and_parts (nat_le 33 b) (nat_le b 126) h).0

abbrev are_graphic : List (List ℕ) → Bool
are_graphic words = list_all (λ w. list_all is_graphic w) words

-- a byte before words: it is a space, or of the first word
byte_then : (b : ℕ) (space : Bool) (words : List (List ℕ)) → (b == 32) ≡ space
    → are_graphic (cond space ([] ∷ words) (onto_first b words)) ≡ true → (not (b == 10) ≡ true) × (are_graphic words ≡ true)
byte_then b true words is h = (space_no_feed b is, h)
byte_then b false [] is h =
    let word = and_parts (is_graphic b && true) true h in
    (graphic_no_feed b (and_parts (is_graphic b) true word.0).0, refl)
byte_then b false (word ∷ words) is h =
    let first = and_parts (is_graphic b && list_all is_graphic word) (are_graphic words) h in
    let byte = and_parts (is_graphic b) (list_all is_graphic word) first.0 in
    (graphic_no_feed b byte.0, both (list_all is_graphic word) (are_graphic words) byte.1 first.1)

words_line : (text : List ℕ) → are_graphic (slice_split (λ b. b == 32) text) ≡ true → is_one_line text ≡ true
words_line [] h = refl
words_line (b ∷ text) h =
    let here = byte_then b (b == 32) (slice_split (λ b. b == 32) text) refl h in
    both (not (b == 10)) (is_one_line text) here.0 (words_line text here.1)

note_is_line : (text : List ℕ) → is_note text ≡ true → is_one_line text ≡ true
note_is_line text h =
    let words = and_parts (is_text (words_at text) && are_graphic (words_at text)) _ h in
    words_line text (and_parts (is_text (words_at text)) (are_graphic (words_at text)) words.0).1

notes_are_lines : (notes : List (List ℕ)) → list_all is_note notes ≡ true → list_all is_one_line notes ≡ true
notes_are_lines [] h = refl
notes_are_lines (note ∷ notes) h =
    let parts = and_parts (is_note note) (list_all is_note notes) h in
    both (is_one_line note) (list_all is_one_line notes) (note_is_line note parts.0) (notes_are_lines notes parts.1)

pub trace_lines : (version : Version) (number : ℕ) (rounds : List RoundView)
    → list_all (is_round_of version) rounds ≡ true → are_lines (notes_in number rounds) ≡ true
trace_lines version number [] h = refl
trace_lines version number (round ∷ rounds) h =
    let parts = and_parts (is_round_of version round) (list_all (is_round_of version) rounds) h in
    let notes = and_parts (is_round round.scripts && are_up_to (max_threads version) round.scripts) (list_all is_note round.notes) parts.0 in
    both (list_all is_one_line round.notes) (are_lines (notes_in (number + 1) rounds)) (notes_are_lines round.notes notes.1)
    (trace_lines version (number + 1) rounds parts.1)
