-- Which numbers of slabs are guards, which are never used: of every (interval + 1) numbers the last.
use Rattle.std.specs.Prelude.{ℕ, ◌+◌, ◌%◌, ◌==◌, Bool, if◌then◌else◌}

abbrev pub is_guard : ℕ → ℕ → Bool
is_guard interval n = (n % (interval + 1)) == interval

-- the least number above n that is no guard's
abbrev pub after : ℕ → ℕ → ℕ
after interval n = if is_guard interval (n + 1) then n + 2 else n + 1
