-- How many bytes a source and a sink move, and when a sink refuses.
use Rattle.std.specs.Prelude.{ℕ, ◌-◌, Bool, ◌&&◌, nat_le, nat_lt, min, max}

-- how many bytes a source moves: as many as are left, as the buffer holds, and as one call gives; a piece of 0 counts
-- as 1
abbrev pub moved_count : (left buffer piece : ℕ) → ℕ
moved_count left buffer piece = min (min left buffer) (max piece 1)

-- a sink with no room left refuses each nonempty piece
abbrev pub is_full : (held room len : ℕ) → Bool
is_full held room len = nat_le room held && nat_lt 0 len

-- how many bytes a sink appends: as many as the piece has, as one call takes, and as there is room
abbrev pub put_count : (held room len piece : ℕ) → ℕ
put_count held room len piece = min (min len piece) (room - held)
