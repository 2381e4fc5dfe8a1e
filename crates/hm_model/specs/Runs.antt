-- Runs of bytes: pairs of a byte and how often it stands there.
use Rattle.std.specs.Prelude.{◌≢◌, ℕ, ◌+◌, ◌==◌, ◌<◌, ◌≤◌, ◌^◌, List, [], ◌∷◌, ◌++◌, replicate, ⊤, if◌then◌else◌}

-- the bytes that runs stand for
abbrev pub expand : List (ℕ × ℕ) → List ℕ
expand [] = []
expand (run ∷ runs) = replicate run.1 run.0 ++ expand runs

-- how many bytes they stand for
abbrev pub total : List (ℕ × ℕ) → ℕ
total [] = 0
total (run ∷ runs) = run.1 + total runs

-- no run is empty, and neighbouring bytes are different
abbrev pub AreApart : List (ℕ × ℕ) → Type 0
AreApart [] = ⊤
AreApart (run ∷ []) = 1 ≤ run.1
AreApart (run ∷ next ∷ runs) = (1 ≤ run.1) × (run.0 ≢ next.0) × AreApart (next ∷ runs)

-- the three rules of runs; the lengths sum to at most 2 ^ 64 - 1
abbrev pub AreRuns : List (ℕ × ℕ) → Type 0
AreRuns runs = AreApart runs × (total runs < 2 ^ 64)

-- runs with one more byte before them: it joins the first run where that is of the same byte
abbrev pub with_byte : ℕ → List (ℕ × ℕ) → List (ℕ × ℕ)
with_byte byte [] = (byte, 1) ∷ []
with_byte byte (run ∷ runs) = if run.0 == byte then (byte, run.1 + 1) ∷ runs else (byte, 1) ∷ run ∷ runs

-- the runs that stand for these bytes
abbrev pub runs_of : List ℕ → List (ℕ × ℕ)
runs_of [] = []
runs_of (byte ∷ bytes) = with_byte byte (runs_of bytes)

-- the runs of so many equal bytes
abbrev pub same_runs : ℕ → ℕ → List (ℕ × ℕ)
same_runs byte len = if len == 0 then [] else (byte, len) ∷ []
