-- Entries that give or take back a slot.
use Rattle.std.specs.Prelude.{ℕ, List}
use Rattle.std.specs.List.{AllByRecursion as EachIs}
use Rattle.hm_model.specs.declared.entry.Entry.{Entry}
use Rattle.hm_model.specs.Calls.{IsFreedAt}
use Rattle.hm_class_rules.specs.Laws.{IsGivenAt}

-- no entry gives the slot
abbrev pub GivesNone : ℕ → List Entry → Type 0
GivesNone a es = EachIs (λ e. IsGivenAt e a → ⊥) es

-- no entry takes it back
abbrev pub FreesNone : ℕ → List Entry → Type 0
FreesNone a es = EachIs (λ e. IsFreedAt e a → ⊥) es
