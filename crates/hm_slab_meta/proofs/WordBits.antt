-- The clear bits of a word from a bit on.
use Rattle.std.proofs.Common.{◌≡◌, ℕ, ◌-◌, ◌*◌, ◌%◌, ◌^◌, ◌<◌, ◌≤◌, min, inl, inr, sym, ap, ◌∙◌, arith}
use Rattle.std.proofs.lemmas.Bool.{cases_lt}
use Rattle.std.proofs.lemmas.Nat.{and_le_l}
use Rattle.std.proofs.lemmas.Nat.Bits.{bit_at_and, bit_at_not, bit_at_mask_inside, bit_at_mask_below, bit_at-zero, bit_at-lt, bit_at-trailing_zeros, ones_shl, same_from_bits_below}
use Rattle.std.specs.Prelude.{bit_and}
use Rattle.std.specs.Int.{bit_at, w64, trailing_zeros}
use Rattle.hm_slab_meta.specs.Words.{AreSet, IsFirstClear}

-- the clear bits from `from` on
abbrev pub masked : ℕ → ℕ → ℕ
masked word from = bit_and (2 ^ 64 - 1 - word) ((2 ^ 64 - 1) * 2 ^ from % 2 ^ 64)

of_both : (x y z b : ℕ) → x ≡ min y z → y ≡ 1 - b → z ≡ 1 → x ≡ 1 - b
of_both x y z b is left right = omega arith

of_none : (x y z : ℕ) → x ≡ min y z → z ≡ 0 → x ≡ 0
of_none x y z is right = omega arith

inside : (word from i : ℕ) → word < 2 ^ 64 → from ≤ i → i < 64 → bit_at (masked word from) i ≡ 1 - bit_at word i
inside word from i fits le below =
    let mask : (2 ^ 64 - 1) * 2 ^ from % 2 ^ 64 ≡ 2 ^ 64 - 2 ^ from = ones_shl 64 from (omega arith) in
    of_both _ _ _ _ (bit_at_and (2 ^ 64 - 1 - word) ((2 ^ 64 - 1) * 2 ^ from % 2 ^ 64) i) (bit_at_not w64 word i fits below)
    (ap (λ n. bit_at n i) mask ∙ bit_at_mask_inside from 64 i le below)

outside : (word from i : ℕ) → from < 64 → i < from → bit_at (masked word from) i ≡ 0
outside word from i few below =
    let mask : (2 ^ 64 - 1) * 2 ^ from % 2 ^ 64 ≡ 2 ^ 64 - 2 ^ from = ones_shl 64 from (omega arith) in
    of_none _ _ _ (bit_at_and (2 ^ 64 - 1 - word) ((2 ^ 64 - 1) * 2 ^ from % 2 ^ 64) i)
    (ap (λ n. bit_at n i) mask ∙ bit_at_mask_below from 64 i below)

set_of : (b : ℕ) → b < 2 → 1 - b ≡ 0 → b ≡ 1
set_of b small e = omega arith

clear_of : (b : ℕ) → 1 - b ≡ 1 → b ≡ 0
clear_of b e = omega arith

-- where no bit is left, all are set
pub all_set : (word from : ℕ) → word < 2 ^ 64 → masked word from ≡ 0 → AreSet word from 64
all_set word from fits none i le below =
    set_of (bit_at word i) (bit_at-lt word i) (sym (inside word from i fits le below) ∙ ap (λ n. bit_at n i) none ∙ bit_at-zero i)

small : (word from : ℕ) → masked word from < 2 ^ 64
small word from = let le = and_le_l (2 ^ 64 - 1 - word) ((2 ^ 64 - 1) * 2 ^ from % 2 ^ 64) in omega (arith, le)

-- the lowest bit that is left is the first clear one
pub first_of : (word from : ℕ) → word < 2 ^ 64 → from < 64 → 0 < masked word from → IsFirstClear word from (trailing_zeros w64 (masked word from))
first_of word from fits few some =
    let low = bit_at-trailing_zeros w64 (masked word from) some (small word from) in
    let position : ℕ = trailing_zeros w64 (masked word from) in
    let after : from ≤ position = elim (cases_lt position from) as (λ _. from ≤ position) [
      | inl below ↦ absurd (apart (bit_at (masked word from) position) (outside word from position few below) low.1)
      | inr le ↦ le
    ] in
    record {
      at_least = after;
      below = low.0;
      clear = clear_of (bit_at word position) (sym (inside word from position fits after low.0) ∙ low.1);
      before = λ i le lt. set_of (bit_at word i) (bit_at-lt word i) (sym (inside word from i fits le (omega (arith, lt, low.0))) ∙ low.2 i lt);
    }
  where
    apart : (b : ℕ) → b ≡ 0 → b ≡ 1 → ⊥
    apart b e f = omega arith

-- a word with no bit set is 0
pub none_set : (word : ℕ) → word < 2 ^ 64 → ((i : ℕ) → i < 64 → bit_at word i ≡ 0) → word ≡ 0
none_set word fits clear = same_from_bits_below 64 word 0 fits (omega arith) (λ i below. clear i below ∙ sym (bit_at-zero i))
