-- What a quarantine keeps, and what a free does to it.
use Rattle.std.specs.Prelude.{◌≡◌, ℕ, zero, suc, ◌-◌, ◌<◌, List, [], ◌∷◌, ◌++◌, length, replicate, slice_get, slice_index_or, slice_set, Option, Some, None, nat_lt, if◌then◌else◌}
use Rattle.circular_buffer.specs.Buffer.{keep_last}

-- the cells of the array, the slots of the ring, the oldest first, and how many the ring may hold
pub record Kept : Type 0 where
  pub array : List (Option ℕ)
  pub ring : List ℕ
  pub ring_length : ℕ

-- so many cells, of which the first ones are given and the others are empty
abbrev pub cells : ℕ → List (Option ℕ) → List (Option ℕ)
cells count first = first ++ replicate (count - length first) None

-- at first every cell is empty, and so is the ring
abbrev pub nothing_kept : ℕ → ℕ → Kept
nothing_kept array_length ring_length =
    record { array = replicate array_length None; ring = []; ring_length = ring_length }

-- an index is below the array's length, or 0 where there is no array
abbrev pub IsArrayIndex : ℕ → ℕ → Type 0
IsArrayIndex zero index = index ≡ 0
IsArrayIndex (suc n) index = index < suc n

-- what goes on from the array as a slot comes: what stood at its cell; with no array, the slot itself
abbrev pub goes_on : List (Option ℕ) → ℕ → ℕ → Option ℕ
goes_on [] slot index = Some slot
goes_on (first ∷ rest) slot index = slice_index_or (first ∷ rest) index None

-- the ring after what goes on has entered, as its newest: it keeps no more than it may hold
abbrev pub ring_with : ℕ → List ℕ → Option ℕ → List ℕ
ring_with ring_length ring None = ring
ring_with ring_length ring (Some slot) = keep_last ring_length (ring ++ slot ∷ [])

-- a full ring gives its oldest out; one that may hold none gives out what enters
abbrev pub goes_out : ℕ → List ℕ → Option ℕ → Option ℕ
goes_out ring_length ring None = None
goes_out ring_length ring (Some slot) = if nat_lt (length ring) ring_length then None else slice_get (ring ++ slot ∷ []) 0

-- what leaves the quarantine as a slot is freed at a cell of the array
abbrev pub let_go : Kept → ℕ → ℕ → Option ℕ
let_go kept slot index = goes_out kept.ring_length kept.ring (goes_on kept.array slot index)

-- what it keeps then: the slot stands at its cell
abbrev pub kept_with : Kept → ℕ → ℕ → Kept
kept_with kept slot index = record {
  array = slice_set kept.array index (Some slot);
  ring = ring_with kept.ring_length kept.ring (goes_on kept.array slot index);
  ring_length = kept.ring_length;
}
