-- How far a loop over the regions of a heap has come.
use Rattle.std.specs.Prelude.{◌≡◌, ◌+◌, ◌<◌, ◌≤◌, ℕ, List, length, map, take, slice_index_or}
use Rattle.hm_outside.specs.declared.pages.Pages as pages
use Rattle.hm_sizes.specs.declared.config.Config.{Config}
use Rattle.hm_turn.specs.Known.{Lock, Known}
use Rattle.hm_heap.specs.declared.close.History.{History}
use Rattle.hm_heap.specs.Closes.{IsClosed}
use Rattle.hm_heap.specs.Founds.{IsFounded}
use Rattle.hm_heap.specs.Passes.{met, region_at}

-- so many locks and turns of a new heap are made
pub record BuildsTo (c : Config) (seed : ℕ) (locks : List Lock) (turns : List Known) (count : ℕ) : Type 0 where
  pub locks_long : length locks ≡ count
  pub turns_long : length turns ≡ count
  pub each : (r : ℕ) (l : Lock) (t : Known) → r < count
      → IsFounded c seed (region_at c r) (slice_index_or locks r l) (slice_index_or turns r t)

-- below i each element was changed, from i on none, and what was made is of the first i
pub record ChangedTo {X : Type 0} (change make : X → X) (start now made : List X) (i : ℕ) : Type 0 where
  pub done : (k : ℕ) (x : X) → k < i → slice_index_or now k x ≡ change (slice_index_or start k x)
  pub later : (k : ℕ) (x : X) → i ≤ k → slice_index_or now k x ≡ slice_index_or start k x
  pub made_is : made ≡ map make (take i start)

-- the turns from the last one on have met those of the other pass; those that are left have not
pub record MetFrom (start others now left : List Known) : Type 0 where
  pub same : length now ≡ length start
  pub fewer : length left ≤ length others
  pub left_is : (k : ℕ) (t : Known) → k < length left → slice_index_or left k t ≡ slice_index_or others k t
  pub before : (k : ℕ) (t : Known) → k < length left → slice_index_or now k t ≡ slice_index_or start k t
  pub after : (k : ℕ) (t u : Known) → length left ≤ k → k < length start
      → slice_index_or now k t ≡ met (slice_index_or start k t) (slice_index_or others k u)

module _ {P : Type 0} (meaning : pages.Ghosts P) where
  -- how far a loop that closes from the last region on has come
  pub record ClosesFrom {L : Type 0} (locks : List L) (turns : List Known) (locks_left : List L) (turns_left : List Known)
      (hs : List History) (ps : List P) : Type 0 where
    pub same : length turns_left ≡ length locks_left
    pub fewer : length locks_left ≤ length locks
    pub locks_are : (k : ℕ) (l : L) → k < length locks_left → slice_index_or locks_left k l ≡ slice_index_or locks k l
    pub turns_are : (k : ℕ) (t : Known) → k < length locks_left → slice_index_or turns_left k t ≡ slice_index_or turns k t
    pub histories : length hs + length locks_left ≡ length locks
    pub pages : length ps + length locks_left ≡ length locks
    pub each : (j k : ℕ) (t : Known) (h : History) (p : P) → j < length hs → j + k + 1 ≡ length locks
        → IsClosed meaning (slice_index_or turns k t) (slice_index_or hs j h) (slice_index_or ps j p)
