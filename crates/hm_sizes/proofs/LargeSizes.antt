-- Sizes of large blocks are whole pages, and none is above the greatest request.
use Rattle.std.proofs.Common.{◌≡◌, ⊎_elim, mul_assoc, ℕ, suc, ◌+◌, ◌-◌, ◌*◌, ◌/◌, ◌%◌, ◌^◌, ◌<◌, ◌≤◌, max, cond, sym, ap, ◌∙◌, refl, arith, subst}
use Rattle.std.proofs.lemmas.Bool.{cases_lt, le-leb, lt-leb}
use Rattle.std.proofs.lemmas.Nat.{leading_top, div-add-mod', mod_below, pow-add}
use lib.Count.{count_leading_zeros}
use Rattle.hm_sizes.specs.Classes.{bit_length, round_up}
use Rattle.hm_sizes.specs.Sizes.{spacing, large_size}
use Rattle.hm_sizes.specs.Laws.{IsLargeSize, LargeSizes}
use Rattle.hm_sizes.proofs.Digits.{power_rises, digits_between}

digits_most : (n : ℕ) → 2 ^ 15 ≤ n → n < 2 ^ 30 → bit_length n ≤ 30
digits_most n least most =
    let top = leading_top 64 n (omega arith) (omega arith) in
    let j : ℕ = top.0 in
    let is : count_leading_zeros 64 n + suc j ≡ 64 = top.1 in
    let high : j < 30 = ⊎_elim (λ (e : j < 30). e) (λ (e : 30 ≤ j). absurd (omega (arith, power_rises 30 j e, top.3))) (cases_lt j 30) in
    omega arith

-- a multiple that x does not pass is not passed by x rounded up
round_most : (m c x : ℕ) → 1 ≤ m → x ≤ c * m → round_up m x ≤ c * m
round_most m c x some le =
    let q : ℕ = (x + (m - 1)) / m in
    let is = div-add-mod' (x + (m - 1)) m in
    ⊎_elim (λ (more : c < q). absurd (fewer q more (omega (arith, is)))) (λ (most : q ≤ c). grind arith) (cases_lt c q)
  where
    fewer : (q : ℕ) → c < q → q * m ≤ x + (m - 1) → ⊥
    fewer q more all = let h : (c + 1) * m ≤ q * m = grind arith in omega arith

round_least : (m x : ℕ) → 1 ≤ m → x ≤ round_up m x
round_least m x some =
    let is = div-add-mod' (x + (m - 1)) m in
    let less = mod_below (x + (m - 1)) m (omega arith) in
    omega arith

round_pages : (m c x : ℕ) → m ≡ c * 4096 → round_up m x % 4096 ≡ 0
round_pages m c x e =
    let q : ℕ = (x + (m - 1)) / m in
    let whole : q * m ≡ (q * c) * 4096 = ap (λ k. q * k) e ∙ sym (mul_assoc q c 4096) in
    ap (λ k. k % 4096) whole ∙ none (q * c)
  where
    none : (z : ℕ) → (z * 4096) % 4096 ≡ 0
    none z = omega arith

by_spacing : (m c d r : ℕ) → 1 ≤ m → m ≡ c * 4096 → d * m ≡ 2 ^ 30 → r ≤ 2 ^ 30 → spacing r ≡ m → IsLargeSize r (large_size r)
by_spacing m c d r some pages all most is =
    subst (λ (k : ℕ). IsLargeSize r (round_up k (max r 1))) (sym is) (record {
      some = omega (arith, round_least m (max r 1) some);
      holds = omega (arith, round_least m (max r 1) some);
      pages = round_pages m c (max r 1) pages;
      most = subst (λ (k : ℕ). round_up m (max r 1) ≤ k) all (round_most m d (max r 1) some (omega arith));
    })

pub large_sizes : LargeSizes
large_sizes r most =
    ⊎_elim (λ (above : 32768 < r). far r above most) (λ (le : r ≤ 32768). by_spacing 4096 1 262144 r (omega arith) refl refl most (near r le)) (cases_lt 32768 r)
  where
    parts : (n i j : ℕ) → n ≡ i + j → 2 ^ n ≡ 2 ^ i * 2 ^ j
    parts n i j e = ap (λ m. 2 ^ m) e ∙ pow-add 2 i j

    near : (r : ℕ) → r ≤ 32768 → spacing r ≡ 4096
    near r le = ap (λ b. cond b 4096 (2 ^ (bit_length (r - 1) - 3))) (le-leb r 32768 le)

    far : (r : ℕ) → 32768 < r → r ≤ 2 ^ 30 → IsLargeSize r (large_size r)
    far r above most =
        let between = digits_between (r - 1) (omega arith) (omega arith) in
        let k : ℕ = bit_length (r - 1) - 3 in
        let high = digits_most (r - 1) (omega arith) (omega arith) in
        let is : spacing r ≡ 2 ^ k = ap (λ b. cond b 4096 (2 ^ k)) (lt-leb r 32768 above) in
        by_spacing (2 ^ k) (2 ^ (k - 12)) (2 ^ (30 - k)) r (power_rises 0 k (omega arith)) (parts k (k - 12) 12 (omega (arith, between.0))) (sym (parts 30 (30 - k) k (omega (arith, high)))) most is
