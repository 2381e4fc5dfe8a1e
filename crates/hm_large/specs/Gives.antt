-- What allotting a block changes.
use Rattle.std.specs.Prelude.{◌≡◌, ℕ, suc, ◌+◌, ◌*◌, ◌-◌, ◌%◌, ◌^◌, ◌<◌, ◌≤◌, ◌⊎◌, Bool, IsTrue, ◌∷◌, Some}
use Rattle.std.specs.FinMap as map
use Rattle.hm_outside.specs.declared.pages.Pages as pages
use Rattle.hm_base.specs.Lists.{zeros}
use Rattle.hm_outside.specs.PageRuns.{PageRuns, MeetsNone}
use Rattle.hm_space.specs.Space.{FreeSpace, IsFreeRange, TakesRange}
use Rattle.hm_sizes.specs.Configs.{IsValid}
use Rattle.hm_sizes.specs.declared.config.Config.{Config}
use Rattle.hm_region_table.specs.declared.entry.Block.{Block as KeptBlock}
use Rattle.hm_region_table.specs.Table.{Table}
use Rattle.hm_large.specs.declared.store.Store.{Store}
use Rattle.hm_model.specs.declared.entry.Reply.{Reply}
use Rattle.hm_model.specs.declared.entry.Reply.TheVariants as reply
use Rattle.hm_large.specs.declared.give.Attempt.{Attempt}
use Rattle.hm_large_rules.specs.State.{size_for, State}
use Rattle.hm_large_rules.specs.Steps.{new_block}
use Rattle.hm_large_rules.specs.Draws.{guard_of, word_at}
use Rattle.hm_large_rules.specs.Rules.{IsCandidate, IsLeastCandidate}
use Rattle.hm_large.specs.BlockTable.{Updates}
use Rattle.hm_large_rules.specs.Laws.{IsSound}
use Rattle.hm_large.specs.Region.{HoldsBlocks}
use Rattle.hm_large.specs.Kept.{Shows}

-- the store is another only in its words and its room
pub record SameStore (old new : Store) : Type 0 where
  pub blocks : (a : ℕ) → map.get new.blocks.blocks a ≡ map.get old.blocks.blocks a
  pub ranges : new.space.ranges ≡ old.space.ranges
  pub out : new.space.out ≡ old.space.out
  pub quarantine : new.quarantine ≡ old.quarantine
  pub owed_same : new.owed ≡ old.owed

-- the range of a block, with its guards, is free
pub record IsFreeFor (space : FreeSpace) (a size guard : ℕ) : Type 0 where
  pub some : 1 ≤ size
  pub most : size ≤ 2 ^ 30
  pub narrow : guard ≤ 2 ^ 32
  pub front : 4096 * guard ≤ a
  pub free : IsFreeRange space (a - 4096 * guard) (size + 2 * (4096 * guard))

-- it was taken out, for one more block
pub record TakesOut (old new : Store) (a size guard : ℕ) : Type 0 where
  pub taken : TakesRange old.space new.space (a - 4096 * guard) (size + 2 * (4096 * guard))
  pub out : new.space.out ≡ old.space.out + 1
  pub owed_more : new.owed ≡ old.owed + 1
  pub others : new ≡ record old { space = new.space; owed = new.owed }

-- the pages of a block can be made accessible
pub record CanOpen (told : Bool) (runs : PageRuns) (a size : ℕ) : Type 0 where
  pub aligned : a % 4096 ≡ 0
  pub whole : size % 4096 ≡ 0
  pub some : 1 ≤ size
  pub most : size ≤ 2 ^ 30
  pub below : a + size ≤ 2 ^ 47
  pub apart : IsTrue told → MeetsNone runs a size

module _ {P : Type 0} (meaning : pages.Ghosts P) where
  -- the page runs are as before
  abbrev pub SamePageRuns : P → P → Type 0
  SamePageRuns before now = IsTrue (meaning.told before) → meaning.runs now ≡ meaning.runs before

  -- a block was put in, and its pages were made accessible
  pub record Opens (old new : Table) (a : ℕ) (block : KeptBlock) (before now : P) : Type 0 where
    pub put : Updates old new a (Some block)
    pub made : IsTrue (meaning.told before)
        → meaning.runs now ≡ map.insert (meaning.runs before) a (zeros block.size)

  -- the table has what it had at each address, and the page runs are as before
  pub record StaysShut (old new : Table) (before now : P) : Type 0 where
    pub stays : (a : ℕ) → map.get new.blocks a ≡ map.get old.blocks a
    pub unchanged : SamePageRuns before now

  -- an allotment in a state that a store shows, with the store afterwards, and the pages before and now
  module _ (c : Config) (seed : ℕ) (s : State) (asked align : ℕ) (new : Store) (before now : P) where
    -- what is left where a block was given at addr, where no address was found, and where a page fault occurred
    abbrev pub LeavesGiven : ℕ → ℕ → Type 0
    LeavesGiven guard addr =
        IsLeastCandidate c s align (size_for asked) guard addr
        × Shows c seed (record s { live = (addr, new_block asked guard) ∷ s.live; words = suc s.words }) new
        × (IsTrue (meaning.told before)
        → meaning.runs now ≡ map.insert (meaning.runs before) addr (zeros (size_for asked)))
        × (meaning.faults before ≤ meaning.faults now)

    abbrev pub LeavesNoSpace : ℕ → Type 0
    LeavesNoSpace guard =
        ((a : ℕ) → IsCandidate c s align (size_for asked) guard a → ⊥)
        × Shows c seed (record s { words = suc s.words }) new
        × SamePageRuns before now
        × (meaning.faults now ≡ meaning.faults before)

    abbrev pub LeavesPagesFailed : ℕ → Type 0
    LeavesPagesFailed guard =
        ((a : ℕ) × IsCandidate c s align (size_for asked) guard a)
        × Shows c seed (record s { words = suc s.words }) new
        × SamePageRuns before now
        × (meaning.faults before < meaning.faults now)

    -- the replies that an attempt may have, each with what it leaves
    abbrev pub Ends : ℕ → Reply → Type 0
    Ends guard r = ((addr : ℕ) × (r ≡ reply.Given addr (size_for asked)) × LeavesGiven guard addr)
        ⊎ (((r ≡ reply.NoSpace) × LeavesNoSpace guard)
        ⊎ ((r ≡ reply.PagesFailed) × LeavesPagesFailed guard))

    -- the next word was drawn, and the guard by it
    pub record Allots (attempt : Attempt) : Type 0 where
      pub word : attempt.word ≡ word_at seed s.words
      pub guard : attempt.guard ≡ guard_of (size_for asked) attempt.word
      pub ends : Ends attempt.guard attempt.reply

  -- nothing was changed, but for room
  pub record Declines (c : Config) (seed : ℕ) (s : State) (new : Store) (before now : P) : Type 0 where
    pub shows : Shows c seed s new
    pub runs_are : SamePageRuns before now
    pub count : meaning.faults now ≡ meaning.faults before

-- there is a state that the pages and the store show
pub record Stands (told : Bool) (runs : PageRuns) (k : Store) : Type 0 where
  pub config : Config
  pub seed : ℕ
  pub s : State
  pub valid : IsValid config
  pub sound : IsSound config s
  pub shows : Shows config seed s k
  pub holds : IsTrue told → HoldsBlocks s.live runs
