-- What a class region keeps between two calls.
use Rattle.std.specs.Prelude.{◌≡◌, ℕ, ◌<◌, ◌≤◌, Bool, true, IsTrue, List, length, Option, Some, is_some}
use Rattle.std.specs.Option.{option_map_or}
use Rattle.hm_outside.specs.Makers.{IsOwned}
use Rattle.hm_outside.specs.PageRuns.{PageRuns}
use Rattle.hm_model.specs.declared.entry.Entry.{Entry}
use Rattle.hm_model.specs.Maps.{among, at}
use Rattle.hm_sizes.specs.declared.config.Config.{Config}
use Rattle.hm_sizes.specs.declared.shape.Shape.{Shape}
use Rattle.hm_sizes.specs.Origins.{class_region_number}
use Rattle.hm_sizes.specs.Shapes.{place}
use Rattle.hm_class_rules.specs.Kinds.{Neither}
use Rattle.hm_class_rules.specs.State.{State, Slab, is_open, is_live}
use Rattle.hm_class_rules.specs.Stepped.{Cells, cells, IsStepped}
use Rattle.hm_class_rules.specs.Rules.{Terms, IsLegal, state}
use Rattle.hm_slab_meta.specs.Uses.{was_given}
use Rattle.hm_class.specs.declared.identity.Identity.{Identity}
use Rattle.hm_class.specs.declared.store.Store.{Store}
use Rattle.hm_class.specs.Slabs.{Slabs}
use Rattle.hm_class.specs.Uses.{Uses, SlabUse, lives, is_condemned, is_quarantined, slab_in, open_at, kind_at, passes_at, canary_at, live_count, numbers_of}
use Rattle.hm_class.specs.Region.{HoldsSlabs}

-- the slots say what the state says
pub record Shows (p : Shape) (uses : Uses) (s : State) : Type 0 where
  pub opens : (n : ℕ) → is_open s n ≡ open_at uses n
  pub slots : (n : ℕ) (b : SlabUse) → slab_in uses n ≡ Some b → length b.slots ≡ p.slots
  pub canary : (n : ℕ) → option_map_or (λ (b : Slab). b.canary) (at n s.opens) 0 ≡ canary_at uses n
  pub live : (n i : ℕ) → i < p.slots → is_live s (place p n i) ≡ passes_at lives uses n i
  pub quarantined : (n i : ℕ) → i < p.slots → among (place p n i) s.quarantined ≡ passes_at is_quarantined uses n i
  pub condemned : (n i : ℕ) → i < p.slots → among (place p n i) s.condemned ≡ passes_at is_condemned uses n i
  pub given : (n i : ℕ) → i < p.slots → among (place p n i) s.given ≡ passes_at was_given uses n i
  -- the retired slabs are there
  pub parked : (n : ℕ) → among n s.parked ≡ true → is_some (slab_in uses n) ≡ true
  pub shut : (n : ℕ) → among n s.shut ≡ true → is_some (slab_in uses n) ≡ true
  pub next : s.next ≡ length uses

-- slabs of the full list are open, and neither partial nor empty
abbrev pub IsFull : Uses → ℕ → Type 0
IsFull uses n = (open_at uses n ≡ true) × (kind_at uses n ≡ Neither)

abbrev pub AreFull : Uses → List ℕ → Type 0
AreFull uses full = (n : ℕ) → among n full ≡ true → IsFull uses n

-- the slots, and the lists that no cell has
pub record Follows (p : Shape) (s : State) (k : Slabs) : Type 0 where
  pub shows : Shows p k.slabs s
  pub shut : k.lists.retired ≡ s.shut
  pub full : AreFull k.slabs k.lists.full
  pub numbers : k.numbers ≡ numbers_of p
  pub live_all : length s.live ≤ live_count k.slabs

-- what is kept, as cells
abbrev pub cells_of : State → Store → Cells
cells_of s store = record {
  state = s;
  stream = store.stream;
  partial = store.slabs.lists.partial;
  empty = store.slabs.lists.empty;
  quarantine = store.quarantine;
  parking = store.slabs.parking;
}

abbrev pub terms_of : Bool → Config → Shape → Terms
terms_of told c p = record { config = c; shape = p; told = told }

abbrev pub terms_in : Bool → Identity → Terms
terms_in told region = terms_of told region.config region.shape

-- the history is legal and drawn, the pages are the region's own, and they and what is kept are what it says
pub record IsKept (told : Bool) (owner : Option ℕ) (runs : PageRuns) (faults : ℕ) (region : Identity)
    (es : List Entry) (store : Store) : Type 0 where
  pub legal : IsLegal (terms_in told region) es
  pub stepped : IsStepped region.seed region.arena (terms_in told region) es
  pub count : faults ≡ (state (terms_in told region) es).faults
  pub follows : Follows region.shape (state (terms_in told region) es) store.slabs
  pub slabs : IsTrue told → HoldsSlabs region.shape (state (terms_in told region) es).opens runs
  pub lists : cells region.seed region.arena (terms_in told region) es
      ≡ cells_of (state (terms_in told region) es) store
  pub owned : IsOwned owner (class_region_number region.arena region.shape.class)
