-- How many words draw each choice. That words cannot be guessed is no part of it.
use Rattle.std.specs.Prelude.{◌≡◌, ◌⊎◌, ◌↔◌, ℕ, ◌+◌, ◌/◌, ◌^◌, ◌<◌, ◌≤◌, true, Some}
use Rattle.hm_choice.specs.Stream.{drawn}
use Rattle.hm_model.specs.declared.entry.Draws.{Draws}
use Rattle.hm_sizes.specs.Shapes.{place}
use Rattle.hm_sizes.specs.declared.shape.Shape.{Shape}
use Rattle.hm_class_rules.specs.State.{State, is_free}
use Rattle.hm_class_rules.specs.Draws as class_draws
use Rattle.hm_class_rules.specs.Drawn.{first_free}
use Rattle.hm_large_rules.specs.Draws.{most_guard, guard_of, array_index}
use Rattle.hm_large_rules.specs.State.{array_length}

-- so many words below 2 ^ 32, one after another, do, and no others
pub record AreInARow (Does : ℕ → Type 0) (count : ℕ) : Type 0 where
  pub first : ℕ
  pub within : first + count ≤ 2 ^ 32
  pub words : (word : ℕ) → Does word ↔ (first ≤ word) × (word < first + count)

-- as many words as one of n even parts has, or one more
abbrev pub IsEven : (ℕ → Type 0) → ℕ → Type 0
IsEven Does n = AreInARow Does (2 ^ 32 / n) ⊎ AreInARow Does (2 ^ 32 / n + 1)

-- each number below n is drawn by an even part of the words
abbrev pub DrawsAreEven : Type 0
DrawsAreEven = (n value : ℕ) → value < n → IsEven (λ word. drawn n word ≡ value) n

-- ---- slots
-- at least as many words as one of n even parts has, one after another, do; others may, too
pub record AreMany (Does : ℕ → Type 0) (n : ℕ) : Type 0 where
  pub first : ℕ
  pub count : ℕ
  pub enough : 2 ^ 32 / n ≤ count
  pub within : first + count ≤ 2 ^ 32
  pub words : (word : ℕ) → first ≤ word → word < first + count → Does word

-- so many words pick an available slot of the slab at hand, whichever others are available there
abbrev pub EverySlotCanCome : Type 0
EverySlotCanCome = (p : Shape) (s : State) (n i : ℕ) → i < p.slots → is_free p s n i ≡ true
    → AreMany (λ word. first_free p s n (drawn p.slots word) ≡ Some (place p n i)) p.slots

-- each place of the array of a quarantine is drawn by an even part of the words of a free
abbrev pub QuarantinePlacesAreEven : Type 0
QuarantinePlacesAreEven = (p : Shape) (d : Draws) (index : ℕ) → index < p.array
    → IsEven (λ word. class_draws.array_index p (record d { w0 = word }) ≡ index) p.array

-- ---- large blocks
abbrev pub BlockPlacesAreEven : Type 0
BlockPlacesAreEven = (index : ℕ) → index < array_length → IsEven (λ word. array_index word ≡ index) array_length

-- each count of guard pages, from 1 to the most
abbrev pub GuardsAreEven : Type 0
GuardsAreEven = (size guard : ℕ) → 1 ≤ guard → guard ≤ most_guard size
    → IsEven (λ word. guard_of size word ≡ guard) (most_guard size)
