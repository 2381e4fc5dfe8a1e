-- Caller numbers, and the callers that were joined.
use Rattle.std.specs.Prelude.{◌≡◌, ℕ, Bool, false, ◌==◌, List, [], ◌∷◌, Option}
use Rattle.std.specs.List.{list_any}
use Rattle.std.specs.Map.{lookup}
use Rattle.hm_model.specs.declared.entry.Entry.{Entry}

-- whether the number is in the list
abbrev pub is_among : ℕ → List ℕ → Bool
is_among n ns = list_any (λ m. n == m) ns

-- no number stands in the list twice
abbrev pub AreDistinct : List ℕ → Type 0
AreDistinct [] = Unit {0}
AreDistinct (n ∷ ns) = (is_among n ns ≡ false) × AreDistinct ns

-- each joined caller with its entries, the last joined first
abbrev pub Ended : Type 0
Ended = List (ℕ × List Entry)

-- the entries of a joined caller
abbrev pub ended_of : ℕ → Ended → Option (List Entry)
ended_of n es = lookup (λ m. n == m) es
