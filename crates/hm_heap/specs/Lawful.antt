-- Which histories the region of an origin may have, and what is kept of it after one.
use Rattle.std.specs.Prelude.{◌≡◌, ◌<◌, ◌*◌, ◌/◌, ◌%◌, ◌⊎◌, ℕ, nat_lt, if◌then◌else◌, IsTrue, List}
use Rattle.std.specs.List.{All}
use Rattle.hm_outside.specs.Makers.{IsOwned}
use Rattle.hm_outside.specs.PageRuns.{PageRuns}
use Rattle.hm_outside.specs.declared.pages.Pages as pages
use Rattle.hm_model.specs.declared.entry.Entry.{Entry}
use Rattle.hm_model.specs.Typed.{IsTyped}
use Rattle.hm_sizes.specs.declared.class.ClassId.{ClassId}
use Rattle.hm_sizes.specs.Classes.{class_count}
use Rattle.hm_sizes.specs.Configs.{IsValid}
use Rattle.hm_sizes.specs.Homes.{large_start}
use Rattle.hm_sizes.specs.Origins.{Origin, large_region_number}
use Rattle.hm_class_rules.specs.Draws.{drawn_shape}
use Rattle.hm_class_rules.specs.Drawn as class_draws
use Rattle.hm_class_rules.specs.Rules as class
use Rattle.hm_class.specs.Region.{HoldsSlabs}
use Rattle.hm_large_rules.specs.Drawn as large_drawn
use Rattle.hm_large.specs.Region.{HoldsBlocks}
use Rattle.hm_large_rules.specs.Rules as large

-- ---- the kinds of region
-- the arena and the class of a class region
abbrev pub arena_of : ℕ → ℕ
arena_of region = region / class_count

abbrev pub class_in : ℕ → ClassId
class_in region = record { 0 = region % class_count }

-- a class region begins where its first word says
abbrev pub class_terms : Origin → class.Terms
class_terms o = record {
  config = o.config;
  shape = drawn_shape o.seed o.config (arena_of o.region) (class_in o.region);
  told = o.told;
}

abbrev pub large_terms : Origin → large.Terms
large_terms o = record { config = o.config; told = o.told }

-- the region is one of a valid configuration
pub record IsRegionOf (o : Origin) : Type 0 where
  pub valid : IsValid o.config
  pub region : (o.region < o.config.arenas * class_count) ⊎ (o.region ≡ large_region_number)

-- ---- histories
pub record IsLawfulClass (o : Origin) (history : List Entry) : Type 0 where
  pub legal : class.IsLegal (class_terms o) history
  pub drawn : class_draws.IsDrawn o.seed (arena_of o.region) (class_terms o) history

pub record IsLawfulLarge (o : Origin) (history : List Entry) : Type 0 where
  pub legal : large.IsLegal (large_terms o) history
  pub drawn : large_drawn.IsDrawn o.seed history

-- legal for the region, and its choices drawn from the region's own stream
pub record IsLawful (o : Origin) (history : List Entry) : Type 0 where
  pub class : o.region < large_region_number → IsLawfulClass o history
  pub large : o.region ≡ large_region_number → IsLawfulLarge o history

-- ---- what is kept after a history
-- the address at which the first slab or the large space begins
abbrev pub first_address : Origin → ℕ
first_address o = if nat_lt o.region large_region_number then (class_terms o).shape.first else large_start

-- the count of page faults
abbrev pub fault_count : Origin → List Entry → ℕ
fault_count o history =
    if nat_lt o.region large_region_number then (class.state (class_terms o) history).faults
    else (large.state (large_terms o) history).faults

-- the accessible runs are exactly the open slabs or the live blocks, with their bytes
pub record Holds (o : Origin) (history : List Entry) (runs : PageRuns) : Type 0 where
  pub class : o.region < large_region_number
      → HoldsSlabs (class_terms o).shape (class.state (class_terms o) history).opens runs
  pub large : o.region ≡ large_region_number → HoldsBlocks (large.state (large_terms o) history).live runs

-- the history is lawful, what the types of its entries promise holds, the pages are what it says, and they are the
-- region's own
pub record IsSound {P : Type 0} (meaning : pages.Ghosts P) (o : Origin) (history : List Entry) (kept : P) : Type 0 where
  pub is_region : IsRegionOf o
  pub lawful : IsLawful o history
  pub typed : All IsTyped history
  pub count : meaning.faults kept ≡ fault_count o history
  pub holds : IsTrue (meaning.told kept) → Holds o history (meaning.runs kept)
  pub owned : IsOwned (meaning.owner kept) o.region
