-- The bytes of a class region.
use Rattle.std.specs.Prelude.{ℕ, ◌+◌, ◌-◌, ◌%◌, ◌==◌, nat_lt, if◌then◌else◌, List, [], ◌∷◌, map, take, drop, slice_get, Option, Some, None}
use Rattle.std.specs.Option.{option_and_then, option_map_or}
use Rattle.std.specs.Int.{to_le_bytes, from_le_bytes}
use mir.Syntax.{w64}
use Rattle.hm_model.specs.Maps.{at}
use Rattle.hm_model.specs.Overlaid.{overlaid}
use Rattle.hm_model.specs.Ranges as ranges
use Rattle.hm_class_rules.specs.State.{State, Slab}
use Rattle.hm_sizes.specs.Shapes.{slab_at, slab_of, usable}
use Rattle.hm_sizes.specs.declared.shape.Shape.{Shape}

-- ---- reading
-- the byte at an address: none where it is not accessible
abbrev pub byte_at : Shape → State → ℕ → Option ℕ
byte_at p s q = if nat_lt q p.first then None
    else option_and_then (λ (b : Slab). slice_get b.bytes ((q - p.first) % p.slab)) (at (slab_of p q) s.opens)

-- the first of len addresses from a on that is not accessible
abbrev pub first_trap : Shape → State → ℕ → ℕ → Option ℕ
first_trap p s a len = ranges.first_trap (byte_at p s) a len

-- len bytes from a on
abbrev pub bytes_read : Shape → State → ℕ → ℕ → List ℕ
bytes_read p s a len = ranges.bytes_read (byte_at p s) a len

-- the bytes of the slab of an address from that address on, as many as are asked for
abbrev pub bytes_from : Shape → State → ℕ → ℕ → List ℕ
bytes_from p s a len = take len
    (drop (a - slab_at p (slab_of p a)) (option_map_or (λ (b : Slab). b.bytes) (at (slab_of p a) s.opens) []))

abbrev pub usable_bytes : Shape → State → ℕ → List ℕ
usable_bytes p s a = bytes_from p s a (usable p)

-- the first byte that is not zero: where it stands, and what it is
abbrev pub one_later : Option (ℕ × ℕ) → Option (ℕ × ℕ)
one_later None = None
one_later (Some r) = Some (r.0 + 1, r.1)

abbrev pub first_nonzero : List ℕ → Option (ℕ × ℕ)
first_nonzero [] = None
first_nonzero (b ∷ bs) = if b == 0 then one_later (first_nonzero bs) else Some (0, b)

-- the canary of the slab of an address, and what the last 8 bytes of a slot there are
abbrev pub kept_canary : Shape → State → ℕ → ℕ
kept_canary p s a = option_map_or (λ (b : Slab). b.canary) (at (slab_of p a) s.opens) 0

abbrev pub found_canary : Shape → State → ℕ → ℕ
found_canary p s a = from_le_bytes w64 (bytes_from p s (a + usable p) 8)

-- ---- writing
abbrev pub overlaid_slabs : Shape → ℕ → List ℕ → List (ℕ × Slab) → List (ℕ × Slab)
overlaid_slabs p a w slabs = map
    (λ e. (e.0, record { bytes = overlaid a w (slab_at p e.0) e.1.bytes; canary = e.1.canary })) slabs

-- w is written from a on, where there are bytes
abbrev pub write : Shape → ℕ → List ℕ → State → State
write p a w s = record s { opens = overlaid_slabs p a w s.opens }

-- a slot's canary is set, where there are bytes
abbrev pub set_canary : Shape → ℕ → State → State
set_canary p a s = write p (a + usable p) (to_le_bytes w64 (kept_canary p s a)) s
