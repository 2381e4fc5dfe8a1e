-- What taking a block back changes.
use Rattle.std.specs.Prelude.{◌≡◌, ℕ, suc, ◌+◌, ◌*◌, ◌-◌, ◌^◌, ◌<◌, ◌≤◌, false, Option, Some, None, IfSome}
use Rattle.std.specs.FinMap as map
use Rattle.std.specs.Bool.{MatchBool}
use Rattle.hm_model.specs.Maps.{at}
use Rattle.hm_quarantine.specs.LookingBack.{released}
use Rattle.hm_space.specs.Space.{FreeSpace, MeetsNoFree, GivesRange}
use Rattle.hm_sizes.specs.Configs.{IsValid}
use Rattle.hm_sizes.specs.declared.config.Config.{Config}
use Rattle.hm_region_table.specs.declared.entry.Block.{Block as KeptBlock}
use Rattle.hm_large.specs.declared.store.Store.{Store}
use Rattle.hm_model.specs.declared.entry.Draws.{Draws}
use Rattle.hm_model.specs.Calls.{no_words, one_word}
use Rattle.hm_large.specs.declared.take_back.Freeing.{Freeing}
use Rattle.hm_large_rules.specs.State.{Block, is_quarantined, State, array_length, ring_length}
use Rattle.hm_large_rules.specs.Steps.{takes_back, releases, free_at}
use Rattle.hm_large_rules.specs.Draws.{word_at}
use Rattle.hm_large_rules.specs.Rules.{ReleasesFor}
use Rattle.hm_large.specs.BlockTable.{Updates}
use Rattle.hm_large_rules.specs.Laws.{IsSound}
use Rattle.hm_large.specs.Kept.{kept_of, Shows}

-- ---- words
-- how many words were drawn once this one was
abbrev pub words_with : Option ℕ → ℕ → ℕ
words_with None words = words
words_with (Some word) words = suc words

-- the words of a free
abbrev pub free_draws : Option ℕ → Draws
free_draws None = no_words
free_draws (Some word) = one_word word

-- ---- ranges
-- the range of a block, with its guards, can be put back
pub record GoesBack (space : FreeSpace) (a : ℕ) (b : KeptBlock) : Type 0 where
  pub some : 1 ≤ b.size
  pub most : b.size ≤ 2 ^ 30
  pub guard : b.guard ≤ 2 ^ 32
  pub front : 4096 * b.guard ≤ a
  pub below : a + b.size + 4096 * b.guard < 2 ^ 64
  pub apart : MeetsNoFree space (a - 4096 * b.guard) (b.size + 2 * (4096 * b.guard))
  pub out : 1 ≤ space.out

-- the range of a block was put back
pub record GaveBack (old new : FreeSpace) (a : ℕ) (b : KeptBlock) : Type 0 where
  pub ranges : GivesRange old new (a - 4096 * b.guard) (b.size + 2 * (4096 * b.guard))
  pub out_less : new.out + 1 ≡ old.out

-- the block at a was taken out of the table, and its range put back, if there was one
pub record PutsBack (old new : Store) (a : ℕ) : Type 0 where
  pub blocks_are : Updates old.blocks new.blocks a None
  pub gave : IfSome (map.get old.blocks.blocks a) (GaveBack old.space new.space a)
  pub others : new ≡ record old { blocks = new.blocks; space = new.space }

-- the block at a is live in a state that the store shows
pub record StandsLive (k : Store) (a : ℕ) (b : KeptBlock) : Type 0 where
  pub config : Config
  pub seed : ℕ
  pub s : State
  pub block : Block
  pub valid : IsValid config
  pub sound : IsSound config s
  pub shows : Shows config seed s k
  pub live : at a s.live ≡ Some block
  pub is : b ≡ kept_of false block

-- what freeing the block at a leaves
pub record Frees (c : Config) (seed : ℕ) (s : State) (a : ℕ) (x : Block) (new : Store) (freeing : Freeing) :
    Type 0 where
  pub words : MatchBool (is_quarantined x)
      ((freeing.word ≡ Some (word_at seed s.words))
      × (freeing.released ≡ released array_length ring_length s.frees (free_at a (word_at seed s.words))))
      ((freeing.word ≡ None) × (freeing.released ≡ None))
  pub allowed : ReleasesFor (Some x) (takes_back a (word_at seed s.words) (Some x) s) freeing.released
  pub shows : Shows c seed (record (releases freeing.released (takes_back a (word_at seed s.words) (Some x) s))
      { words = words_with freeing.word s.words }) new
