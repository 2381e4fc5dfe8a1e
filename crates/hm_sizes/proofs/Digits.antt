-- How many binary digits the size of a large block has.
use Rattle.std.proofs.Common.{◌≡◌, ℕ, suc, ◌+◌, ◌-◌, ◌*◌, ◌/◌, ◌%◌, ◌^◌, ◌<◌, ◌≤◌, arith, ⊎_elim, sym, ap, ◌∙◌}
use lib.Pow.{pow_mono}
use Rattle.std.proofs.lemmas.Bool.{cases_lt}
use Rattle.std.proofs.lemmas.Nat.{leading_top, one_shl, div-add-mod', div-mul-add}
use lib.Count.{count_leading_zeros}
use Rattle.hm_sizes.specs.Classes.{bit_length, round_up}

pub power_rises : (i j : ℕ) → i ≤ j → 2 ^ i ≤ 2 ^ j
power_rises i j le = pow_mono le

exponent_above : (j : ℕ) → 2 ^ 15 < 2 ^ suc j → 15 ≤ j
exponent_above j lt =
    ⊎_elim (λ (e : j < 15). absurd (omega (arith, power_rises (suc j) 15 (omega arith)))) (λ (e : 15 ≤ j). e) (cases_lt j 15)

exponent_below : (j : ℕ) → 2 ^ j < 2 ^ 31 → j < 31
exponent_below j lt =
    ⊎_elim (λ (e : j < 31). e) (λ (e : 31 ≤ j). absurd (omega (arith, power_rises 31 j (omega arith)))) (cases_lt j 31)

pub digits_between : (n : ℕ) → 2 ^ 15 ≤ n → n < 2 ^ 31 → (16 ≤ bit_length n) × (bit_length n ≤ 31)
digits_between n least most =
    let top = leading_top 64 n (omega arith) (omega arith) in
    let j : ℕ = top.0 in
    let is : count_leading_zeros 64 n + suc j ≡ 64 = top.1 in
    let low : 15 ≤ j = exponent_above j (omega (arith, top.3)) in
    let high : j < 31 = exponent_below j (omega (arith, top.2)) in
    (omega arith, omega arith)

pub power_most : (k : ℕ) → k ≤ 28 → (1 * 2 ^ k) % 2 ^ 64 ≤ 2 ^ 31
power_most k le = omega (arith, one_shl k 64 (omega arith), power_rises k 28 le)

-- the multiple of y that is x or more, and less than x + y
pub rounded_up : (y x r : ℕ) → 1 ≤ y → x ≤ r → r < x + y → r % y ≡ 0 → r ≡ round_up y x
rounded_up y x r some least most whole =
    let q : ℕ = r / y in
    let is : q * y + r % y ≡ r = div-add-mod' r y in
    let e : x + (y - 1) ≡ q * y + (x + (y - 1) - r) = omega arith in
    sym (ap (λ (k : ℕ). (k / y) * y) e ∙ ap (λ (k : ℕ). k * y) (div-mul-add q y (x + (y - 1) - r) (omega arith)) ∙ omega arith)
