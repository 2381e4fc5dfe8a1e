-- The words that the large region draws, and what is drawn from them.
use Rattle.std.specs.Prelude.{ℕ, zero, suc, ◌+◌, ◌/◌, max}
use Rattle.hm_choice.specs.Stream.{Words, start_of, next_word, after_word, drawn}
use Rattle.hm_sizes.specs.Origins.{large_region_number}
use Rattle.hm_large_rules.specs.State.{array_length}

-- ---- the region's stream
-- its number among those of a run is the region's
abbrev pub stream_of : ℕ → Words
stream_of seed = start_of seed large_region_number

-- the stream once so many of its words are taken, and the next of them
abbrev pub stream_after : ℕ → ℕ → Words
stream_after seed zero = stream_of seed
stream_after seed (suc n) = after_word (stream_after seed n)

abbrev pub word_at : ℕ → ℕ → ℕ
word_at seed n = next_word (stream_after seed n)

-- ---- what is drawn
-- the most pages that a guard has, and how many a word draws
abbrev pub most_guard : ℕ → ℕ
most_guard size = max 1 (size / 8192)

abbrev pub guard_of : ℕ → ℕ → ℕ
guard_of size word = 1 + drawn (most_guard size) word

-- the index in the array to which a freed block goes
abbrev pub array_index : ℕ → ℕ
array_index word = drawn array_length word
