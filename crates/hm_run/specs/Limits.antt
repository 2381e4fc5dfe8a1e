-- How many bytes are read.
use Rattle.std.specs.Prelude.{ℕ, ◌+◌}

-- a trace has at most so many: 64 MiB
abbrev pub most_bytes : ℕ
most_bytes = 67108864

-- so many are taken from a source at most: one more shows that there are too many
abbrev pub most_taken : ℕ
most_taken = most_bytes + 1

-- and so many in one call
abbrev pub most_piece : ℕ
most_piece = 65536
