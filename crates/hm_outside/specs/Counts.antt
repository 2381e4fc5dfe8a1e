-- Counts of faults.
use Rattle.std.specs.Prelude.{ℕ, ◌+◌, ◌-◌, ◌^◌, Bool, false, ◌&&◌, nat_lt, ◌==◌, min, if◌then◌else◌, Ok, Err}
use Rattle.std.specs.declared.result.Result.{Result}

-- one more, and not past the last value of 64 bits
abbrev pub raised : ℕ → ℕ
raised count = min (count + 1) (2 ^ 64 - 1)

-- the count after a call
abbrev pub raised_if : Bool → ℕ → ℕ
raised_if fault count = if fault then raised count else count

-- nothing of a nonempty piece was appended
abbrev pub is_refused : {E : Type 0} → Result ℕ E → (len : ℕ) → Bool
is_refused (Ok n) len = (n == 0) && nat_lt 0 len
is_refused (Err e) len = false
