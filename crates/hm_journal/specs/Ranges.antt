-- The numbers of a journal, each in the range of its type.
use Rattle.std.specs.Prelude.{ℕ, List, length}
use Rattle.std.specs.List.{All}
use Rattle.hm_sizes.specs.declared.config.Config.{Config}
use Rattle.hm_heap.specs.declared.close.History.{History}
pub use Rattle.hm_model.specs.Typed.{EntryFits, Fits32, Fits64}

pub record HistoryFits (h : History) : Type 0 where
  pub region : Fits32 h.region.0
  pub first : Fits64 h.first
  pub entries : All EntryFits h.entries
  pub count : Fits64 (length h.entries)
  pub faults : Fits64 h.faults

pub record ConfigFits (c : Config) : Type 0 where
  pub arenas : Fits32 c.arenas
  pub class_region : Fits64 c.class_region
  pub large_space : Fits64 c.large_space
  pub guard_interval : Fits32 c.guard_interval
  pub array_base : Fits32 c.array_base
  pub ring_base : Fits32 c.ring_base
  pub park_length : Fits32 c.park_length

-- all numbers of a journal
pub record JournalFits (c : Config) (n : ℕ) (hs : List History) : Type 0 where
  pub config : ConfigFits c
  pub seed : Fits64 n
  pub histories : All HistoryFits hs
