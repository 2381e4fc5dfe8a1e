-- A book of a class region as the state that it holds, and the slots of a slab that are taken.
use Rattle.std.specs.Prelude.{◌≡◌, ℕ, ◌==◌, ◌<◌, ◌≤◌, ◌^◌, MatchOption, Bool, true, false, List, map, get_or, Option, Some, None}
use Rattle.hm_sizes.specs.declared.shape.Shape.{Shape}
use Rattle.hm_sizes.specs.Shapes.{place, slab_at, IsShape}
use Rattle.hm_class_rules.specs.State.{State, Slab, is_taken}
use Rattle.hm_class_rules.specs.Rules.{Terms}
use Rattle.hm_class_rules.specs.Laws.{IsSound, AllWhole, bytes_of_slab}
use Rattle.hm_model.specs.Overlaid.{overlaid}
use Rattle.hm_class_book.specs.declared.book.Book.{Book}
use Rattle.hm_class_book.specs.declared.book.OpenSlab.{OpenSlab}
use Rattle.hm_class_book.specs.declared.region.Region.{Region}

abbrev pub slab_in : OpenSlab → Slab
slab_in b = record { bytes = b.bytes; canary = b.canary }

abbrev pub slabs_in : List (ℕ × OpenSlab) → List (ℕ × Slab)
slabs_in opens = map (λ e. (e.0, slab_in e.1)) opens

abbrev pub state_in : Book → State
state_in b = record {
  live = b.live.items;
  quarantined = b.quarantined.items;
  condemned = b.condemned.items;
  given = b.given.items;
  frees = b.frees.items;
  opens = slabs_in b.opens.items;
  parked = b.parked.items;
  shut = b.shut.items;
  next = b.next;
  faults = b.faults;
}

-- the region's pages tell their bytes
abbrev pub terms : Region → Terms
terms r = record { config = r.config; shape = r.shape; told = true }

-- what holds of the state after each legal history
pub record IsKept (p : Shape) (s : State) : Type 0 where
  pub shape : IsShape p
  pub sound : IsSound p s
  pub whole : AllWhole (bytes_of_slab p) s.opens

-- the index is that one
abbrev pub is_index : Option ℕ → ℕ → Bool
is_index None i = false
is_index (Some k) i = k == i

-- slab n begins there, or past all addresses
abbrev pub IsStart : Shape → ℕ → Option ℕ → Type 0
IsStart p n start = MatchOption start (2 ^ 64 ≤ slab_at p n) (λ a. a ≡ slab_at p n)

-- the marks say which slots of slab n are taken
abbrev pub Marks : Shape → State → ℕ → List Bool → Type 0
Marks p s n marks = (i : ℕ) → i < p.slots → get_or marks i false ≡ is_taken s (place p n i)

abbrev pub slab_pair : ℕ × OpenSlab → ℕ × Slab
slab_pair e = (e.0, slab_in e.1)

-- w is written over a slab
abbrev pub overlaid_slab : Shape → ℕ → List ℕ → ℕ × Slab → ℕ × Slab
overlaid_slab p a w e = (e.0, record { bytes = overlaid a w (slab_at p e.0) e.1.bytes; canary = e.1.canary })
