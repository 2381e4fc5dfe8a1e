-- For which regions a maker has made pages, where it tells.
use Rattle.std.specs.Prelude.{◌≡◌, ℕ, List, ◌∷◌, [], MatchResult, IfSome}
use Rattle.std.specs.declared.option.Option.{Option}
use Rattle.std.specs.declared.result.Result.{Result}
use Rattle.hm_outside.specs.Streams.{Put}

-- pages were made for these regions, in this order, after those of before; whether the maker tells them stays
abbrev pub Made : Option (List ℕ) → Option (List ℕ) → List ℕ → Type 0
Made before after regions = Put before after regions

-- one call of `make`: pages were made for this region; where it lacks memory, for none
abbrev pub Makes : {T E : Type 0} → Option (List ℕ) → Option (List ℕ) → Result T E → ℕ → Type 0
Makes before after result region = MatchResult result (λ _. Made before after (region ∷ [])) (λ _. after ≡ before)

-- pages that say to which region they belong belong to this one
abbrev pub IsOwned : Option ℕ → ℕ → Type 0
IsOwned owner region = IfSome owner (λ r. r ≡ region)
