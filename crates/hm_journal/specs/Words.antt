-- The words of a journal: numbers, `-` for None, and runs of bytes; and lines of words.
use Rattle.std.specs.Prelude.{ℕ, List, [], ◌∷◌, ◌++◌, map, codes, Option, Some, None}
use Rattle.std.specs.List.{flat_map, join_with_byte}
use Rattle.std.specs.Fmt.{decimal}
use Rattle.hm_base.specs.Bytes.{run_word}

-- a number, or `-` for None
abbrev pub option_word : Option ℕ → List ℕ
option_word None = codes "-"
option_word (Some n) = decimal n

-- the runs with a comma between each two, or `-` where there are none
abbrev pub runs_word : List (ℕ × ℕ) → List ℕ
runs_word [] = codes "-"
runs_word (run ∷ runs) = join_with_byte 44 (run_word run ∷ map run_word runs)

-- words with one space between each two, and a line feed behind them
abbrev pub line_text : List (List ℕ) → List ℕ
line_text words = join_with_byte 32 words ++ 10 ∷ []

-- the lines one after another
abbrev pub lines_text : List (List (List ℕ)) → List ℕ
lines_text lines = flat_map line_text lines

-- words, each behind a space
abbrev pub spaced : List (List ℕ) → List ℕ
spaced words = flat_map (λ (word : List ℕ). 32 ∷ word) words
