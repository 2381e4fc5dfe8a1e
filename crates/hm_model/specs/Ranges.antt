-- The bytes of a range of addresses.
use Rattle.std.specs.Prelude.{ℕ, zero, suc, ◌+◌, Bool, if◌then◌else◌, List, [], ◌∷◌, Option, Some, None, is_some, unwrap_or}

-- the first of len addresses from a on that fails the test
abbrev pub first_failing : (ℕ → Bool) → ℕ → ℕ → Option ℕ
first_failing test a zero = None
first_failing test a (suc len) = if test a then first_failing test (a + 1) len else Some a

-- by the byte at each address: none where it is not accessible
module _ (byte_at : ℕ → Option ℕ) where
  -- the first of len addresses from a on that is not accessible
  abbrev pub first_trap : ℕ → ℕ → Option ℕ
  first_trap a len = first_failing (λ q. is_some (byte_at q)) a len

  -- len bytes from a on
  abbrev pub bytes_read : ℕ → ℕ → List ℕ
  bytes_read a zero = []
  bytes_read a (suc len) = unwrap_or (byte_at a) 0 ∷ bytes_read (a + 1) len
