-- Calls that are numbered from 1, some of which a list names to fail.
use Rattle.std.specs.Prelude.{ℕ, ◌-◌, ◌^◌, Bool, ◌&&◌, nat_lt, ◌==◌, List}
use Rattle.std.specs.List.{list_any}

-- the list names the call of this number to fail; it fails none past number 2^64 - 2
abbrev pub is_named : List ℕ → ℕ → Bool
is_named fail_calls number = nat_lt number (2 ^ 64 - 1) && list_any (λ n. n == number) fail_calls
