-- The kinds of slabs, and when each slab became what it is.
use Rattle.std.specs.Prelude.{◌≡◌, ◌≢◌, ◌⊎◌, ℕ, suc, ◌≤◌, Bool, true, false, if◌then◌else◌, List, [], ◌∷◌, length}
use Rattle.hm_sizes.specs.declared.shape.Shape.{Shape}
use Rattle.hm_class_rules.specs.State.{State, is_empty, is_partial}

-- some but not all of a slab's places are available, or all; else it is full, retired, or was never opened
pub data Kind : Type 0 where
  Partial : Kind
  Empty : Kind
  Neither : Kind

abbrev pub kind : Shape → State → ℕ → Kind
kind p s n = if is_partial p s n then Partial else if is_empty p s n then Empty else Neither

abbrev pub same_kind : Kind → Kind → Bool
same_kind Partial Partial = true
same_kind Empty Empty = true
same_kind Neither Neither = true
same_kind _ _ = false

-- the past is the list of the kinds of all slabs after each entry so far, the latest first

-- what slab n is now
abbrev pub now : List (ℕ → Kind) → ℕ → Kind
now [] n = Neither
now (kinds ∷ past) n = kinds n

-- the number of the entry with which slab n became what it is
abbrev pub since : List (ℕ → Kind) → ℕ → ℕ
since [] n = 0
since (kinds ∷ past) n = if same_kind (kinds n) (now past n) then since past n else suc (length past)

-- of the slabs of this kind, n became so last
pub record IsLast (wanted : Kind) (past : List (ℕ → Kind)) (n : ℕ) : Type 0 where
  pub is : now past n ≡ wanted
  pub last : (m : ℕ) → now past m ≡ wanted → since past m ≤ since past n

abbrev pub IsNone : Kind → List (ℕ → Kind) → Type 0
IsNone wanted past = (n : ℕ) → now past n ≢ wanted

-- the open slab from which the next place is picked: the partial slab that became partial last; where none is partial, the
-- empty slab that became empty last
abbrev pub IsSource : List (ℕ → Kind) → ℕ → Type 0
IsSource past n = IsLast Partial past n ⊎ (IsNone Partial past × IsLast Empty past n)
