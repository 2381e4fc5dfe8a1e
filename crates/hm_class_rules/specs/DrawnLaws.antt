-- Laws of drawn choices.
use Rattle.std.specs.Prelude.{◌≡◌, ℕ, ◌+◌, ◌<◌, ◌≤◌, ◌↔◌, ◌==◌, true, if◌then◌else◌, ◌⊎◌, false, List, [], ◌∷◌, ◌++◌, length, slice_index_or, Option, Some, None, is_some}
use Rattle.hm_quarantine.specs.Quarantine.{IsArrayIndex, let_go}
use Rattle.hm_model.specs.Maps.{times}
use Rattle.hm_model.specs.declared.entry.Entry.{Entry}
use Rattle.hm_sizes.specs.Classes.{class_count}
use Rattle.hm_sizes.specs.Configs.{IsValid}
use Rattle.hm_sizes.specs.Shapes.{IsShape, place}
use Rattle.hm_sizes.specs.declared.shape.Shape.{Shape}
use Rattle.hm_sizes.specs.declared.config.Config.{Config}
use Rattle.hm_sizes.specs.declared.class.ClassId.{ClassId}
use Rattle.hm_class_rules.specs.State.{State, is_live, is_free, has_free, is_partial, is_empty, empty_slabs}
use Rattle.hm_class_rules.specs.Steps.{takes_back}
use Rattle.hm_class_rules.specs.Rules.{Terms, IsLegal, state, NoneServes, Source, Releases, Unparks}
use Rattle.hm_class_rules.specs.Drawn.{first_free, IsDrawn}
use Rattle.hm_class_rules.specs.Stepped.{Cells, cells, next, front, IsSteppedEntry, IsStepped}
use Rattle.hm_class_rules.specs.Draws.{drawn_shape}

-- looking back and going step by step say the same of every legal history
abbrev pub DrawnIsStepped : Type 0
DrawnIsStepped = (seed arena : ℕ) (t : Terms) (es : List Entry) → 1 ≤ t.config.park_length → IsShape t.shape
    → IsLegal t es → IsDrawn seed arena t es ↔ IsStepped seed arena t es

-- the history goes on with exactly the entries that the lists and the stream give, and each changes them
abbrev pub OneMoreStepped : Type 0
OneMoreStepped = (seed arena : ℕ) (t : Terms) (es : List Entry) (e : Entry) → IsStepped seed arena t es
    → IsSteppedEntry t (cells seed arena t es) e → IsStepped seed arena t (es ++ e ∷ [])

abbrev pub OneLessStepped : Type 0
OneLessStepped = (seed arena : ℕ) (t : Terms) (es : List Entry) (e : Entry) → IsStepped seed arena t (es ++ e ∷ [])
    → IsStepped seed arena t es × IsSteppedEntry t (cells seed arena t es) e

abbrev pub NextCells : Type 0
NextCells = (seed arena : ℕ) (t : Terms) (es : List Entry) (e : Entry)
    → cells seed arena t (es ++ e ∷ []) ≡ next t (cells seed arena t es) e

-- the numbers of a region that begins where its first word says fit together
abbrev pub DrawnShapeFits : Type 0
DrawnShapeFits = (seed : ℕ) (c : Config) (arena : ℕ) (class : ClassId) → IsValid c → arena < c.arenas
    → class.0 < class_count → IsShape (drawn_shape seed c arena class)

-- ---- the first available place
-- slot k comes before slot j in the order from slot i on, cyclically
abbrev pub ComesBefore : ℕ → ℕ → ℕ → Type 0
ComesBefore i k j = ((i ≤ k) × (k < j)) ⊎ ((j < i) × ((i ≤ k) ⊎ (k < j)))

-- slot j of slab n is available, and none that comes before it is
pub record IsFirstFree (p : Shape) (s : State) (n i j : ℕ) : Type 0 where
  pub slot : j < p.slots
  pub free : is_free p s n j ≡ true
  pub first : (k : ℕ) → k < p.slots → ComesBefore i k j → is_free p s n k ≡ false

abbrev pub FindsFirst : Type 0
FindsFirst = (p : Shape) (s : State) (n i j : ℕ) → i < p.slots → IsFirstFree p s n i j
    → first_free p s n i ≡ Some (place p n j)

-- there is one exactly where the slab has an available slot
abbrev pub FindsSome : Type 0
FindsSome = (p : Shape) (s : State) (n i : ℕ) → i < p.slots → is_some (first_free p s n i) ≡ has_free p s n

-- ---- what the lists hold after a legal and drawn history
-- how often a number stands in an array
abbrev pub times_in : ℕ → List (Option ℕ) → ℕ
times_in a [] = 0
times_in a (None ∷ array) = times_in a array
times_in a (Some x ∷ array) = (if x == a then 1 else 0) + times_in a array

pub record AreKept (t : Terms) (s : State) (c : Cells) : Type 0 where
  pub state_is : c.state ≡ s
  -- the partial and the empty slabs, each once
  pub partial : (n : ℕ) → times n c.partial ≡ if is_partial t.shape s n then 1 else 0
  pub empty : (n : ℕ) → times n c.empty ≡ if is_empty t.shape s n then 1 else 0
  pub empty_count : length c.empty ≡ length (empty_slabs t.shape s)
  -- the addresses in quarantine, and the parked slabs
  pub quarantined : (a : ℕ) → times_in a c.quarantine.array + times a c.quarantine.ring ≡ times a s.quarantined
  pub parked : (n : ℕ) → times_in n c.parking ≡ times n s.parked
  -- the arrays and the ring are as long as the region's numbers say
  pub array_length : length c.quarantine.array ≡ t.shape.array
  pub ring_length : c.quarantine.ring_length ≡ t.shape.ring
  pub ring_most : length c.quarantine.ring ≤ t.shape.ring
  pub parking_length : length c.parking ≡ t.config.park_length

abbrev pub ListsAreKept : Type 0
ListsAreKept = (seed arena : ℕ) (t : Terms) (es : List Entry) → 1 ≤ t.config.park_length → IsShape t.shape
    → IsLegal t es → IsStepped seed arena t es
    → AreKept t (state t es) (cells seed arena t es)

-- ---- what is drawn next is legal
pub record AllowsDrawn (t : Terms) (s : State) (c : Cells) : Type 0 where
  -- the front of the lists is a source
  pub source : (n : ℕ) → front c.partial c.empty ≡ Some n → Source t.shape s None n
  pub no_source : front c.partial c.empty ≡ None → NoneServes t.shape s
  -- what the quarantine lets go as a live slot is freed
  pub release : (a index : ℕ) → is_live s a ≡ true → IsArrayIndex t.shape.array index
      → Releases t.shape (takes_back t.shape a s) (let_go c.quarantine a index)
  -- what stands at a parking index
  pub unparked : (index : ℕ) → index < t.config.park_length
      → Unparks t.config.park_length s.parked (slice_index_or c.parking index None)

abbrev pub DrawnIsAllowed : Type 0
DrawnIsAllowed = (seed arena : ℕ) (t : Terms) (es : List Entry) → 1 ≤ t.config.park_length → IsShape t.shape
    → IsLegal t es → IsStepped seed arena t es
    → AllowsDrawn t (state t es) (cells seed arena t es)
