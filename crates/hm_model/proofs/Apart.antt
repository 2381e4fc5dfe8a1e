-- Runs that may follow a run of a given byte.
use Rattle.std.proofs.Common.{◌≢◌, ℕ, ◌≤◌, List, [], ◌∷◌, Option, Some, None}
use Rattle.std.specs.Prelude.{⊤}
use Rattle.hm_model.specs.Runs.{AreApart}

-- the runs are apart, and the first has another byte than the last one before them
abbrev pub AreApartFrom : Option ℕ → List (ℕ × ℕ) → Type 0
AreApartFrom last [] = ⊤
AreApartFrom last (run ∷ runs) = (1 ≤ run.1) × (last ≢ Some run.0) × AreApartFrom (Some run.0) runs

some_other : (a b : ℕ) → a ≢ b → Some a ≢ Some b
some_other a b other e = other cc

other : (a b : ℕ) → Some a ≢ Some b → a ≢ b
other a b others e = others cc

pub from_apart : (run : ℕ × ℕ) (runs : List (ℕ × ℕ)) → AreApart (run ∷ runs) → (1 ≤ run.1) × AreApartFrom (Some run.0) runs
from_apart run [] h = (h, tt)
from_apart run (next ∷ runs) h =
    let later = from_apart next runs h.2 in
    (h.0, (later.0, some_other run.0 next.0 h.1, later.1))

pub to_apart : (run : ℕ × ℕ) (runs : List (ℕ × ℕ)) → 1 ≤ run.1 → AreApartFrom (Some run.0) runs → AreApart (run ∷ runs)
to_apart run [] some h = some
to_apart run (next ∷ runs) some h = (some, other run.0 next.0 h.1, to_apart next runs h.0 h.2)

pub all_from : (runs : List (ℕ × ℕ)) → AreApart runs → AreApartFrom None runs
all_from [] h = tt
all_from (run ∷ runs) h = let parts = from_apart run runs h in (parts.0, (λ e. cc), parts.1)

pub all_to : (runs : List (ℕ × ℕ)) → AreApartFrom None runs → AreApart runs
all_to [] h = tt
all_to (run ∷ runs) h = to_apart run runs h.0 h.2
