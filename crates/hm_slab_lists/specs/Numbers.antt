-- The numbers of the slabs that are no guards.
use Rattle.std.specs.Prelude.{ℕ, ◌+◌, ◌/◌}

-- the number of the i-th slab that is no guard
abbrev pub nth_slab : ℕ → ℕ → ℕ
nth_slab interval i = i + i / interval
