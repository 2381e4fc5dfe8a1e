-- The text of the sums of the sizes of large blocks: one line for each round.
use Rattle.std.specs.Prelude.{ℕ, ◌+◌, List, [], ◌∷◌, ◌++◌, codes}
use Rattle.std.specs.Fmt.{decimal}
use Rattle.hm_report.specs.Summary.{number_text}

-- `round R large N` and a line feed
abbrev pub total_line : ℕ → ℕ → List ℕ
total_line round total = codes "round " ++ decimal round ++ number_text (codes "large") total ++ 10 ∷ []

-- the lines of the rounds from this one on
abbrev pub total_lines : ℕ → List ℕ → List ℕ
total_lines round [] = []
total_lines round (total ∷ totals) = total_line round total ++ total_lines (round + 1) totals

-- all lines: the rounds count from 1
abbrev pub totals_text : List ℕ → List ℕ
totals_text totals = total_lines 1 totals
