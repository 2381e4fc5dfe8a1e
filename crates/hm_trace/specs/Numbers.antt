-- Words that are numbers.
use Rattle.std.specs.Prelude.{ℕ, ◌+◌, ◌-◌, ◌*◌, Bool, false, not, ◌&&◌, ◌||◌, ◌==◌, nat_le, List, [], ◌∷◌, length}
use Rattle.std.specs.List.{list_all}
use Rattle.std.specs.Str.{all_ascii_digits}

-- the value of digits after those of n
abbrev pub value_from : ℕ → List ℕ → ℕ
value_from n [] = n
value_from n (c ∷ cs) = value_from (10 * n + (c - 48)) cs

-- the value of digits
abbrev pub value : List ℕ → ℕ
value word = value_from 0 word

-- decimal digits with no zero before them, but `0` itself
unfoldable pub is_decimal : List ℕ → Bool
is_decimal [] = false
is_decimal (c ∷ []) = all_ascii_digits (c ∷ [])
is_decimal (c ∷ d ∷ cs) = not (c == 48) && all_ascii_digits (c ∷ d ∷ cs)

-- a number from low to high
unfoldable pub is_number : ℕ → ℕ → List ℕ → Bool
is_number low high word = is_decimal word && nat_le low (value word) && nat_le (value word) high

-- 0 to 9 or a to f
abbrev pub is_hex_digit : ℕ → Bool
is_hex_digit c = (nat_le 48 c && nat_le c 57) || (nat_le 97 c && nat_le c 102)

-- 1 to 16 hexadecimal digits with no zero before them, but `0` itself
unfoldable pub is_hex : List ℕ → Bool
is_hex [] = false
is_hex (c ∷ []) = is_hex_digit c
is_hex (c ∷ d ∷ cs) = not (c == 48) && nat_le (length (c ∷ d ∷ cs)) 16 && list_all is_hex_digit (c ∷ d ∷ cs)

-- two hexadecimal digits
unfoldable pub is_byte : List ℕ → Bool
is_byte (high ∷ low ∷ []) = is_hex_digit high && is_hex_digit low
is_byte _ = false
