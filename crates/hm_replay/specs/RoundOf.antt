-- What a round says of the first pass.
use Rattle.std.specs.Prelude.{◌≡◌, ℕ, ◌+◌, ◌-◌, ◌<◌, ◌≤◌, ◌⊎◌, false, List, [], ◌++◌, length, map, slice_index_or, take, Option, Some, None}
use Rattle.hm_model.specs.declared.entry.Entry.{Entry}
use Rattle.hm_sizes.specs.declared.config.Config.{Config}
use Rattle.hm_trace.specs.Views.{ScriptView}
use Rattle.hm_turn.specs.Callers.{is_among, ended_of}
use Rattle.hm_turn.specs.Known.{Known}
use Rattle.hm_heap.specs.Passes.{PassView, AllKnow}
use Rattle.hm_replay.specs.Gains.{mine_of}
use Rattle.hm_replay.specs.Names.{Names}
use Rattle.hm_replay.specs.Rounds.{AreFronts, AreOfCallers}
use Rattle.hm_replay.specs.Uses.{Own}

-- the entries of a joined caller, and none of another
abbrev pub calls_in : Option (List Entry) → List Entry
calls_in None = []
calls_in (Some calls) = calls

-- the entries that a joined caller has made, of the region at each index
abbrev pub ended_in : List Known → ℕ → Own
ended_in ts caller index = slice_index_or (map (λ (t : Known). calls_in (ended_of caller t.knows.ended)) ts) index []

-- of the first pass: each turn is caller 0's, and knows what all callers did; all that were split off are joined
pub record IsGathered (p : PassView) : Type 0 where
  pub first : (r : ℕ) (t : Known) → r < length p.turns → (slice_index_or p.turns r t).knows.caller ≡ 0
  pub knows : AllKnow p.turns
  pub joined : (r caller : ℕ) (t : Known) → r < length p.turns
      → ended_of caller (slice_index_or p.turns r t).knows.ended ≡ None
      → is_among caller (slice_index_or p.turns r t).knows.used ≡ false

-- what the first pass made itself stays, and so do the entries of callers but these
pub record Stays (first count : ℕ) (ts us : List Known) : Type 0 where
  pub as_many : length us ≡ length ts
  pub mine : (index : ℕ) → mine_of us index ≡ mine_of ts index
  pub others : (caller : ℕ) → (caller < first) ⊎ (first + count ≤ caller)
      → (index : ℕ) → ended_in us caller index ≡ ended_in ts caller index

-- what was seen has grown by entries of these callers alone
pub record SeesMore (first count : ℕ) (before after : List Entry) : Type 0 where
  pub more : List Entry
  pub is : after ≡ before ++ more
  pub callers : AreOfCallers first count more

abbrev pub AllSeeMore : ℕ → ℕ → List Known → List Known → Type 0
AllSeeMore first count ts us = (r : ℕ) (t : Known) → r < length ts
    → SeesMore first count (slice_index_or ts r t).knows.seen (slice_index_or us r t).knows.seen

-- what a round of so many scripts leaves of the first pass: all passes that it split off are joined, and it made no
-- call itself
pub record LeavesRoot (count : ℕ) (p q : PassView) : Type 0 where
  pub same : q ≡ record p { splits = q.splits; turns = q.turns }
  pub stays : Stays (p.splits + 1) count p.turns q.turns
  pub gathered : IsGathered p → IsGathered q
  pub seen : IsGathered p → AllSeeMore (p.splits + 1) count p.turns q.turns

-- of the scripts of a round the first ones were begun, as many as passes were split off; all entries of each one's caller
-- are those of a front of the script, and what the first pass knew of other callers stays
pub record BeginsRound (c : Config) (round : ℕ) (names : Names) (scripts : List ScriptView) (p q : PassView) : Type 0
  where
    pub alone : LeavesRoot (q.splits - p.splits) p q
    pub fronts : AreFronts c (ended_in q.turns) (p.splits + 1) round names (take (q.splits - p.splits) scripts)
