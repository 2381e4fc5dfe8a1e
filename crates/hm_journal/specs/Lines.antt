-- Single lines of a journal, as their words.
use Rattle.std.specs.Prelude.{ℕ, List, [], ◌∷◌, codes}
use Rattle.std.specs.Fmt.{decimal}

abbrev pub header_line : List (List ℕ)
header_line = codes "hmjournal" ∷ codes "1" ∷ []

abbrev pub seed_line : ℕ → List (List ℕ)
seed_line seed = codes "seed" ∷ decimal seed ∷ []

-- a region, where it begins, and how many entries follow
abbrev pub region_line : ℕ → ℕ → ℕ → List (List ℕ)
region_line region first count = codes "region" ∷ decimal region ∷ decimal first ∷ decimal count ∷ []

-- the last count of a region's page faults
abbrev pub closed_line : ℕ → List (List ℕ)
closed_line faults = codes "closed" ∷ decimal faults ∷ []

abbrev pub end_line : List (List ℕ)
end_line = codes "end" ∷ []
