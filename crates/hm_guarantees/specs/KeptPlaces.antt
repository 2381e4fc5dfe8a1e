-- Where the slots of a class region lie, over time.
use Rattle.std.specs.Prelude.{◌≡◌, ◌⊎◌, ℕ, ◌+◌, ◌≤◌, List, [], ◌∷◌, ◌++◌}
use Rattle.hm_model.specs.declared.entry.Entry.{Entry}
use Rattle.hm_sizes.specs.Shapes.{IsShape, IsPlaceOf}
use Rattle.hm_class_rules.specs.Laws.{IsGivenAt}
use Rattle.hm_class_rules.specs.Rules.{Terms, IsLegal}

-- each slot that is given is one of the slots of a slab that is no guard
abbrev pub KeptPlaces : Type 0
KeptPlaces = (t : Terms) (before : List Entry) (given : Entry) (a : ℕ)
    → IsLegal t (before ++ given ∷ []) → IsGivenAt given a
    → (n : ℕ) × (i : ℕ) × IsPlaceOf t.shape a n i

-- two that were ever given are one slot, or share no address
abbrev pub PlacesApart : Type 0
PlacesApart = (t : Terms) (before others : List Entry) (given other : Entry) (a b : ℕ) → IsShape t.shape
    → IsLegal t (before ++ given ∷ []) → IsGivenAt given a → IsLegal t (others ++ other ∷ []) → IsGivenAt other b
    → (a ≡ b) ⊎ (a + t.shape.slot ≤ b) ⊎ (b + t.shape.slot ≤ a)
