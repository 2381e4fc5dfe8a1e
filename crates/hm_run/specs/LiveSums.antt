-- The sums of the sizes of live large blocks after each round.
use Rattle.std.specs.Prelude.{ℕ, true, List}
use Rattle.std.specs.List.{sum_by}
use Rattle.hm_model.specs.declared.entry.Entry.{Entry}
use Rattle.hm_sizes.specs.declared.config.Config.{Config}
use Rattle.hm_trace.specs.Views.{ScriptView}
use Rattle.hm_large_rules.specs.State.{Block}
use Rattle.hm_large_rules.specs.Rules as large
use Rattle.hm_heap.specs.Calls.{large_index}
use Rattle.hm_heap.specs.declared.close.History.{History}
use Rattle.hm_replay.specs.Watched.{entries_at, numbers_upto}

-- the sum of the sizes of the blocks that are live after these entries of the large region; whether its pages tell is no
-- matter
abbrev pub live_sum : Config → List Entry → ℕ
live_sum c es = sum_by (λ (b : ℕ × Block). b.1.size) (large.state (record { config = c; told = true }) es).live

-- for each of the rounds, after the entries of the large region's history that are of the rounds up to it
abbrev pub live_sums : Config → List (List ScriptView) → List History → List ℕ
live_sums c rounds hs = numbers_upto (live_sum c) 1 rounds (entries_at hs (large_index c))
