-- A class region as callers see it.
use Rattle.std.specs.Prelude.{◌≡◌, ℕ, ◌<◌, ◌≤◌, Bool, true, IsTrue, List, length, Option, Some, None}
use Rattle.std.specs.FinMap as map
use Rattle.std.specs.List.{All}
use Rattle.hm_outside.specs.declared.pages.Pages as pages
use Rattle.hm_outside.specs.Makers.{IsOwned}
use Rattle.hm_outside.specs.PageRuns.{PageRuns}
use Rattle.hm_model.specs.declared.entry.Entry.{Entry}
use Rattle.hm_model.specs.Typed.{IsTyped}
use Rattle.hm_sizes.specs.declared.class.ClassId.{ClassId}
use Rattle.hm_sizes.specs.declared.config.Config.{Config}
use Rattle.hm_sizes.specs.declared.shape.Shape.{Shape}
use Rattle.hm_sizes.specs.Classes.{class_count}
use Rattle.hm_sizes.specs.Configs.{IsValid}
use Rattle.hm_sizes.specs.Origins.{Origin, class_region_number}
use Rattle.hm_sizes.specs.Shapes.{IsShape, slab_at, has_bytes}
use Rattle.hm_model.specs.Maps.{at}
use Rattle.hm_class_rules.specs.Laws.{AllWhole, bytes_of_slab}
use Rattle.hm_class_rules.specs.State.{State, Slab}
use Rattle.hm_class_rules.specs.Draws.{drawn_shape}
use Rattle.hm_class_rules.specs.Drawn.{IsDrawn}
use Rattle.hm_class_rules.specs.Rules.{Terms, IsLegal, state, IsLiveBlock, wrong_size, wrong_canary}

pub record Region (P : Type 0) : Type 0 where
  pub config : Config
  pub seed : ℕ
  pub arena : ℕ
  pub class : ClassId
  pub entries : List Entry
  -- the room for entries
  pub spare : ℕ
  pub pages : P

module _ {P : Type 0} where
  -- the region begins where its first word says
  abbrev pub region_shape : Region P → Shape
  region_shape r = drawn_shape r.seed r.config r.arena r.class

  -- the region that it is
  abbrev pub origin : (P → Bool) → Region P → Origin
  origin told r = record {
    config = r.config;
    seed = r.seed;
    region = class_region_number r.arena r.class;
    told = told r.pages;
  }

  -- the bytes are told where the pages tell them
  abbrev pub terms : (P → Bool) → Region P → Terms
  terms told r = record { config = r.config; shape = region_shape r; told = told r.pages }

  -- the state after the entries
  abbrev pub region_state : (P → Bool) → Region P → State
  region_state told r = state (terms told r) r.entries

-- the run that begins at an address is an open slab with its bytes
pub record IsSlab (p : Shape) (opens : List (ℕ × Slab)) (first : ℕ) (bytes : List ℕ) : Type 0 where
  pub own : has_bytes p ≡ true
  pub number : ℕ
  pub slab : Slab
  pub first_is : first ≡ slab_at p number
  pub slab_is : at number opens ≡ Some slab
  pub bytes_is : bytes ≡ slab.bytes

-- the accessible runs are exactly the open slabs, with their bytes; in class 0 there are none
pub record HoldsSlabs (p : Shape) (opens : List (ℕ × Slab)) (runs : PageRuns) : Type 0 where
  pub each : has_bytes p ≡ true → (n : ℕ) (b : Slab) → at n opens ≡ Some b → map.get runs (slab_at p n) ≡ Some b.bytes
  pub only : (q : ℕ) (bytes : List ℕ) → map.get runs q ≡ Some bytes → IsSlab p opens q bytes
  pub whole : AllWhole (bytes_of_slab p) opens

-- the region is one of a valid configuration, its history is legal, its choices are drawn, what the types of its entries
-- promise holds, the pages are its own, and they and the room for entries are what it says
pub record IsRegion {P : Type 0} (meaning : pages.Ghosts P) (r : Region P) : Type 0 where
  pub valid : IsValid r.config
  pub arena_below : r.arena < r.config.arenas
  pub class_below : r.class.0 < class_count
  pub shape : IsShape (region_shape r)
  pub legal : IsLegal (terms meaning.told r) r.entries
  pub drawn : IsDrawn r.seed r.arena (terms meaning.told r) r.entries
  pub typed : All IsTyped r.entries
  pub count : meaning.faults r.pages ≡ (region_state meaning.told r).faults
  pub slabs : IsTrue (meaning.told r.pages)
      → HoldsSlabs (region_shape r) (region_state meaning.told r).opens (meaning.runs r.pages)
  pub owned : IsOwned (meaning.owner r.pages) (class_region_number r.arena r.class)
  -- an entry for the free of each live block
  pub room : length (region_state meaning.told r).live ≤ r.spare

-- the address starts a live block, the stated size is its own, and its canary is unchanged, which is known where the
-- bytes are told and in class 0, which has none
pub record IsTakenBack {P : Type 0} (told : P → Bool) (r : Region P) (a : ℕ) (stated : Option ℕ) : Type 0 where
  pub tells : has_bytes (region_shape r) ≡ true → IsTrue (told r.pages)
  pub block : IsLiveBlock (region_shape r) (region_state told r) a
  pub size : wrong_size (region_shape r) stated ≡ None
  pub canary : wrong_canary (region_shape r) (region_state told r) a ≡ None
