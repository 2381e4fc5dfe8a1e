-- What the large region keeps between two calls.
use Rattle.std.specs.Prelude.{◌≡◌, ℕ, ◌+◌, ◌↔◌, Bool, true, false, IsTrue, List, length, Option, Some, None}
use Rattle.std.specs.FinMap as map
use Rattle.hm_model.specs.declared.entry.Entry.{Entry}
use Rattle.hm_model.specs.Maps.{at, keys}
use Rattle.hm_outside.specs.declared.pages.Pages as pages
use Rattle.hm_outside.specs.Makers.{IsOwned}
use Rattle.hm_quarantine.specs.Delay.{quarantined, AreNew}
use Rattle.hm_quarantine.specs.LookingBack.{AreIndices, kept_after}
use Rattle.hm_sizes.specs.declared.config.Config.{Config}
use Rattle.hm_sizes.specs.Configs.{IsValid}
use Rattle.hm_sizes.specs.Origins.{large_region_number}
use Rattle.hm_space.specs.Space.{IsFree}
use Rattle.hm_region_table.specs.declared.entry.Block.{Block as KeptBlock}
use Rattle.hm_large.specs.declared.store.Store.{Store}
use Rattle.hm_large_rules.specs.State.{Block, State, array_length, ring_length, IsOpen, owed}
use Rattle.hm_large_rules.specs.Rules.{IsLegal, state}
use Rattle.hm_large_rules.specs.Draws.{stream_after}
use Rattle.hm_large_rules.specs.Drawn.{IsDrawn}
use Rattle.hm_large.specs.Region.{HoldsBlocks}

-- what is kept of a block
abbrev pub kept_of : Bool → Block → KeptBlock
kept_of quarantined b = record { asked = b.asked; size = b.size; guard = b.guard; quarantined = quarantined; failed = b.failed }

abbrev pub kept_or : Option Block → Option Block → Option KeptBlock
kept_or (Some b) quarantined = Some (kept_of false b)
kept_or None (Some b) = Some (kept_of true b)
kept_or None None = None

-- what is kept of the live block at a, or of the one in quarantine
abbrev pub kept_at : State → ℕ → Option KeptBlock
kept_at s a = kept_or (at a s.live) (at a s.quarantined)

-- the table, the free ranges, the quarantine and the stream say what the state says
pub record Shows (c : Config) (seed : ℕ) (s : State) (k : Store) : Type 0 where
  pub blocks : (a : ℕ) → map.get k.blocks.blocks a ≡ kept_at s a
  pub space : (q : ℕ) → IsFree k.space q ↔ IsOpen c s q
  pub out : k.space.out ≡ length s.live + length s.quarantined
  pub quarantine : k.quarantine ≡ kept_after array_length ring_length s.frees
  pub words : k.words ≡ stream_after seed s.words
  pub owed_is : k.owed ≡ owed s.live
  -- the blocks in quarantine are those that looking back through the frees finds there
  pub quarantined_are : keys s.quarantined ≡ quarantined array_length ring_length s.frees
  pub indices : AreIndices array_length s.frees
  pub new : AreNew array_length ring_length s.frees

-- the history is legal and drawn, the pages are the region's own, and they and the store are what it says
pub record IsKept {P : Type 0} (meaning : pages.Ghosts P) (p : P) (c : Config) (seed : ℕ) (es : List Entry)
    (k : Store) : Type 0 where
  pub valid : IsValid c
  pub legal : IsLegal (record { config = c; told = meaning.told p }) es
  pub drawn : IsDrawn seed es
  pub count : meaning.faults p ≡ (state (record { config = c; told = meaning.told p }) es).faults
  pub held : IsTrue (meaning.told p)
      → HoldsBlocks (state (record { config = c; told = meaning.told p }) es).live (meaning.runs p)
  pub shows : Shows c seed (state (record { config = c; told = meaning.told p }) es) k
  pub owned : IsOwned (meaning.owner p) large_region_number
