-- Lists of bytes.
use Rattle.std.specs.Prelude.{ℕ, ◌+◌, List, ◌++◌, length, take, drop, replicate}

-- so many zero bytes
abbrev pub zeros : ℕ → List ℕ
zeros n = replicate n 0

-- bytes with w written over them from i on
abbrev pub written : List ℕ → ℕ → List ℕ → List ℕ
written b i w = take i b ++ w ++ drop (i + length w) b
