-- The locks and the turns of a new heap, and the regions whose pages are made for it.
use Rattle.std.specs.Prelude.{◌≡◌, ◌<◌, ℕ, List, ◌∷◌, [], ◌++◌, length, slice_index_or}
use Rattle.std.specs.List.{range_with_len}
use Rattle.hm_sizes.specs.declared.config.Config.{Config}
use Rattle.hm_sizes.specs.Homes.{region_count}
use Rattle.hm_sizes.specs.Origins.{large_region_number}
use Rattle.hm_turn.specs.Knowledge.{founding}
use Rattle.hm_turn.specs.Known.{Lock, Known}
use Rattle.hm_heap.specs.Passes.{IsOriginOf}

-- a lock of this region, and its first turn, which has seen nothing
pub record IsFounded (c : Config) (seed region : ℕ) (lock : Lock) (turn : Known) : Type 0 where
  pub origin : IsOriginOf c seed region lock.origin
  pub of : turn.lock ≡ lock.id
  pub knows : turn.knows ≡ founding lock.origin

-- each turn has seen nothing
abbrev pub Founds : List Lock → List Known → Type 0
Founds locks turns = (r : ℕ) (l : Lock) (t : Known) → r < length locks
    → (slice_index_or turns r t).knows ≡ founding (slice_index_or locks r l).origin

-- the numbers of all regions of a configuration, each once: those of the classes, then the large one
abbrev pub all_regions : Config → List ℕ
all_regions c = range_with_len 0 (region_count c) ++ (large_region_number ∷ [])
