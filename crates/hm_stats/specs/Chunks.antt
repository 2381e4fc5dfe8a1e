-- The chunks in which histories are counted.
use Rattle.std.specs.Prelude.{◌≡◌, ℕ, ◌+◌, ◌-◌, ◌*◌, ◌/◌, ◌%◌, ◌^◌, ◌<◌, ◌≤◌, min, List, length, slice_index_or, Result, IfOk}
use Rattle.std.specs.Fork.{slice_chunk}
use Rattle.hm_base.specs.declared.memory.NoMemory.{NoMemory}
use Rattle.hm_heap.specs.declared.close.History.{History}
use Rattle.hm_stats.specs.declared.tables.Table.{Table}
use Rattle.hm_stats.specs.Tables.{table_of}

-- how many chunks of this length so many elements have
abbrev pub chunk_count : ℕ → ℕ → ℕ
chunk_count count size = count / size + min 1 (count % size)

-- what was counted is the table of these histories
pub record IsCounted (histories : List History) (found : Result Table NoMemory) : Type 0 where
  pub value : IfOk found (λ table. table ≡ table_of histories)
  pub sized : IfOk found (λ table. table.all.bytes ≤ table.all.entries * (2 ^ 64 - 1))

-- what was counted of each chunk of the histories, chunk after chunk
pub record AreCounted (histories : List History) (size : ℕ) (found : List (Result Table NoMemory)) : Type 0 where
  pub some : 0 < size
  pub count : length found ≡ chunk_count (length histories) size
  pub each : (k : ℕ) (d : Result Table NoMemory) → k < length found
      → IsCounted (slice_chunk histories size k) (slice_index_or found k d)
