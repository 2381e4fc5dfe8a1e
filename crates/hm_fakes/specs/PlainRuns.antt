-- A run in a vector, and what plain runs are once they were written over.
use Rattle.std.specs.Prelude.{ℕ, List, ◌++◌, length, take, drop}
use Rattle.std.specs.Vec.{with_items_from}
use Rattle.hm_outside.specs.PageRuns.{PageRuns}
use Rattle.hm_outside.specs.RunLists.{with_range_by}
use Rattle.hm_fakes.specs.declared.run.Run.{Run}

abbrev pub entry : Run → ℕ × List ℕ
entry run = (run.first, run.bytes.items)

-- the run with w written over its bytes from there on
abbrev pub with_bytes : Run → ℕ → ℕ → List ℕ → Run
with_bytes run from len w = record run { bytes = with_items_from run.bytes from w }

-- w written over these bytes from i on, as far as there are any
abbrev pub put_over : List ℕ → ℕ → ℕ → List ℕ → List ℕ
put_over bytes i len w = take (length bytes) (take i bytes ++ (w ++ drop (length w) (drop i bytes)))

-- what plain runs are once w was written over the range
abbrev pub with_range : PageRuns → ℕ → ℕ → List ℕ → PageRuns
with_range = with_range_by put_over
