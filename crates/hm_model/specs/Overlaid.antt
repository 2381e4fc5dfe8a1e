-- Bytes written over others.
use Rattle.std.specs.Prelude.{ℕ, ◌+◌, ◌-◌, nat_lt, nat_le, ◌&&◌, if◌then◌else◌, List, [], ◌∷◌, length, get_or}

-- bytes that stand at q, with w over them from a on
abbrev pub overlaid : ℕ → List ℕ → ℕ → List ℕ → List ℕ
overlaid a w q [] = []
overlaid a w q (b ∷ bs) = (if nat_le a q && nat_lt q (a + length w) then get_or w (q - a) 0 else b)
    ∷ overlaid a w (q + 1) bs
