-- The least multiple of a number that is not below another, and the remainder by a power of two.
use Rattle.std.proofs.Common.{◌≡◌, ℕ, suc, ◌+◌, ◌-◌, ◌*◌, ◌/◌, ◌%◌, ◌^◌, ◌<◌, ◌≤◌, inl, inr, arith, ap, refl, ◌∙◌, subst, bit_and}
use lib.Count.{ones}
use Rattle.std.proofs.lemmas.Bool.{cases_lt}
use Rattle.std.proofs.lemmas.Nat.{div-add-mod', mod_below, and_mask, leading_top, ones_cat, zero_from_ones}
use Rattle.std.proofs.Math.Nat.{mul-mod_left, mul-le-mul_right}

-- so many past it stands the least multiple
pub record IsSkip (base align skip : ℕ) : Type 0 where
  pub multiple : (base + skip) % align ≡ 0
  pub least : (k : ℕ) → base ≤ k → k % align ≡ 0 → base + skip ≤ k

pub skip_none : (base align : ℕ) → base % align ≡ 0 → IsSkip base align 0
skip_none base align e = record {
  multiple = ap (λ (k : ℕ). k % align) (let same : base + 0 ≡ base = omega arith in same) ∙ e;
  least = λ k le m. omega arith;
}

pub skip_some : (base align : ℕ) → 1 ≤ align → 0 < base % align → IsSkip base align (align - base % align)
skip_some base align some past =
    let q = base / align in
    let parts = div-add-mod' base align in
    let below = mod_below base align some in
    record {
      multiple = ap (λ (k : ℕ). k % align) (let next : base + (align - base % align) ≡ (q + 1) * align = omega (arith, parts, below) in next) ∙ mul-mod_left (q + 1) align;
      least = λ k le m. (
          let whole = div-add-mod' k align in
          elim (cases_lt (k / align) (q + 1)) as (λ _. base + (align - base % align) ≤ k) [
            | inl lt ↦ absurd (omega (arith, whole, m, parts, mul-le-mul_right align (let l : k / align ≤ q = omega arith in l)))
            | inr ge ↦ omega (arith, whole, m, parts, below, mul-le-mul_right align ge)
          ]);
    }

-- a number of one bit is a power of two, and one less than it is a mask
pub masked : (number align : ℕ) → 1 ≤ align → align < 2 ^ 64 → ones align ≡ 1 → bit_and number (align - 1) ≡ number % align
unfolding ones
masked number align some fits one =
    let top = leading_top 64 align some fits in
    let j : ℕ = top.0 in
    let above : 2 ^ j ≤ align = top.2 in
    let below : align < 2 ^ suc j = top.3 in
    let rest : align - 2 ^ j < 2 ^ j = omega arith in
    let whole : align ≡ 1 * 2 ^ j + (align - 2 ^ j) = omega arith in
    let bits : ones align ≡ ones 1 + ones (align - 2 ^ j) = ap ones whole ∙ ones_cat j 1 (align - 2 ^ j) rest in
    let first : ones 1 ≡ 1 = refl in
    let none : align - 2 ^ j ≡ 0 = zero_from_ones (align - 2 ^ j) (omega arith) in
    let power : 2 ^ j ≡ align = omega arith in
    subst (λ (k : ℕ). bit_and number (k - 1) ≡ number % k) power (and_mask number j)
