-- What closing a heap hands out.
use Rattle.std.specs.Prelude.{◌≡◌, ◌<◌, ℕ, Bool, List, length, slice_index_or}
use Rattle.hm_outside.specs.declared.pages.Pages as pages
use Rattle.hm_sizes.specs.declared.config.Config.{Config}
use Rattle.hm_sizes.specs.Origins.{Origin}
use Rattle.hm_turn.specs.Known.{Known, IsWhole}
use Rattle.hm_heap.specs.declared.close.History.{History}
use Rattle.hm_heap.specs.Lawful.{first_address, IsSound}
use Rattle.hm_heap.specs.Origins.{origin_in}
use Rattle.hm_heap.specs.Passes.{region_at}

module _ {P : Type 0} (meaning : pages.Ghosts P) where
  -- the history of the region of this origin, and its pages, which are what the history says
  pub record IsEnd (o : Origin) (h : History) (p : P) : Type 0 where
    pub region_is : h.region.0 ≡ o.region
    pub first_is : h.first ≡ first_address o
    pub faults_are : h.faults ≡ meaning.faults p
    pub told_is : meaning.told p ≡ o.told
    pub sound : IsSound meaning o h.entries p

  -- the history and the pages of this region of a heap, whose pages tell as its turn says: the history goes on from
  -- what its last turn had seen
  pub record IsClosedRegion (c : Config) (seed region : ℕ) (t : Known) (h : History) (p : P) : Type 0 where
    pub told : Bool
    pub told_is : told ≡ (origin_in t.knows.origin).told
    pub end : IsEnd (record { config = c; seed = seed; region = region; told = told }) h p
    pub whole : IsWhole h.entries t.knows

  -- of each region, by ascending number
  pub record Closes (c : Config) (seed : ℕ) (turns : List Known) (hs : List History) (ps : List P) : Type 0 where
    pub histories : length hs ≡ length turns
    pub pages : length ps ≡ length turns
    pub each : (r : ℕ) (t : Known) (h : History) (p : P) → r < length turns
        → IsClosedRegion c seed (region_at c r)
        (slice_index_or turns r t) (slice_index_or hs r h) (slice_index_or ps r p)

  -- ---- lock by lock, each of which says which region it is
  pub record IsClosed (t : Known) (h : History) (p : P) : Type 0 where
    pub end : IsEnd (origin_in t.knows.origin) h p
    pub whole : IsWhole h.entries t.knows

  pub record ClosesAll (turns : List Known) (hs : List History) (ps : List P) : Type 0 where
    pub histories : length hs ≡ length turns
    pub pages : length ps ≡ length turns
    pub each : (r : ℕ) (t : Known) (h : History) (p : P) → r < length turns
        → IsClosed (slice_index_or turns r t) (slice_index_or hs r h) (slice_index_or ps r p)
