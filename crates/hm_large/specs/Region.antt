-- The large region as callers see it.
use Rattle.std.specs.Prelude.{◌≡◌, ℕ, ◌≤◌, Bool, IsTrue, List, option_map}
use Rattle.std.specs.FinMap as map
use Rattle.std.specs.List.{All}
use Rattle.hm_outside.specs.declared.pages.Pages as pages
use Rattle.hm_outside.specs.Makers.{IsOwned}
use Rattle.hm_outside.specs.PageRuns.{PageRuns}
use Rattle.hm_model.specs.declared.entry.Entry.{Entry}
use Rattle.hm_model.specs.Typed.{IsTyped}
use Rattle.hm_model.specs.Maps.{at}
use Rattle.hm_sizes.specs.declared.config.Config.{Config}
use Rattle.hm_sizes.specs.Configs.{IsValid}
use Rattle.hm_sizes.specs.Origins.{Origin, large_region_number}
use Rattle.hm_large_rules.specs.State.{Block, Blocks, owed, State}
use Rattle.hm_large_rules.specs.Rules.{Terms, IsLegal, state}
use Rattle.hm_large_rules.specs.Drawn.{IsDrawn}

pub record Region (P : Type 0) : Type 0 where
  pub config : Config
  -- the seed, from which its words follow
  pub seed : ℕ
  pub entries : List Entry
  -- the room for entries
  pub spare : ℕ
  pub pages : P

-- the accessible runs are exactly the live blocks, with their bytes
abbrev pub HoldsBlocks : Blocks → PageRuns → Type 0
HoldsBlocks live runs = (a : ℕ) → map.get runs a ≡ option_map (λ (b : Block). b.bytes) (at a live)

module _ {P : Type 0} (told : P → Bool) where
  abbrev pub terms : Region P → Terms
  terms r = record { config = r.config; told = told r.pages }

  -- the state after the entries
  abbrev pub region_state : Region P → State
  region_state r = state (terms r) r.entries

-- the region that it is
abbrev pub origin : {P : Type 0} → (P → Bool) → Region P → Origin
origin told r = record { config = r.config; seed = r.seed; region = large_region_number; told = told r.pages }

-- the history is legal and drawn, what the types of its entries promise holds, the pages are the region's own, and they
-- and the room for entries are what it says
pub record IsRegion {P : Type 0} (meaning : pages.Ghosts P) (r : Region P) : Type 0 where
  pub valid : IsValid r.config
  pub legal : IsLegal (terms meaning.told r) r.entries
  pub drawn : IsDrawn r.seed r.entries
  pub typed : All IsTyped r.entries
  pub count : meaning.faults r.pages ≡ (region_state meaning.told r).faults
  pub held : IsTrue (meaning.told r.pages) → HoldsBlocks (region_state meaning.told r).live (meaning.runs r.pages)
  pub owned : IsOwned (meaning.owner r.pages) large_region_number
  -- an entry for the free of each live block of which no free met a page fault
  pub room : owed (region_state meaning.told r).live ≤ r.spare
