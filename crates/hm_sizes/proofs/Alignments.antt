-- Alignments are powers of two, and the classes that serve them have slots at their multiples.
use Rattle.std.proofs.Common.{◌≡◌, ⊎_elim, ℕ, zero, suc, ◌+◌, ◌-◌, ◌*◌, ◌/◌, ◌%◌, ◌^◌, ◌<◌, ◌≤◌, max, sym, ap, ◌∙◌, subst, refl, arith}
use lib.Count.{ones}
use Rattle.std.proofs.lemmas.Bool.{cases_lt}
use Rattle.std.proofs.lemmas.Nat.{pow_pos, pow_below, leading_top, ones_cat, zero_from_ones, mod-pow-add, div-add-mod', mod-mul-add}
use Rattle.hm_sizes.specs.declared.class.ClassId.{ClassId}
use Rattle.hm_sizes.specs.declared.class.Kind.TheVariants.{Small}
use Rattle.hm_sizes.specs.declared.shape.Shape.{Shape}
use Rattle.hm_sizes.specs.Classes.{slot_size}
use Rattle.hm_sizes.specs.Aligned.{IsAlignment, IsAlignedKindOf}
use Rattle.hm_sizes.specs.Shapes.{slab_of, slot_of, IsShape, IsPlace, IsPlaceOf}
use Rattle.hm_sizes.specs.Laws.{IsServedBy}
use Rattle.hm_sizes.proofs.ClassTable.{is_bounded}
use Rattle.hm_sizes.proofs.PlaceTest.{place_is}

-- ---- one bit
some_bit : (n : ℕ) → ones n ≡ 1 → 0 < n
unfolding ones
some_bit zero one = let none : ones 0 ≡ 0 = refl in absurd (omega arith)
some_bit (suc n) one = omega arith

-- a number of one bit is that bit
bit_of : (n : ℕ) → n < 2 ^ 64 → ones n ≡ 1 → (k : ℕ) × (n ≡ 2 ^ k)
unfolding ones
bit_of n fits one =
    let top = leading_top 64 n (some_bit n one) fits in
    let j : ℕ = top.0 in
    let above : 2 ^ j ≤ n = top.2 in
    let below : n < 2 ^ suc j = top.3 in
    let rest : n - 2 ^ j < 2 ^ j = omega arith in
    let whole : n ≡ 1 * 2 ^ j + (n - 2 ^ j) = omega arith in
    let bits : ones n ≡ ones 1 + ones (n - 2 ^ j) = ap ones whole ∙ ones_cat j 1 (n - 2 ^ j) rest in
    let first : ones 1 ≡ 1 = refl in
    let none : n - 2 ^ j ≡ 0 = zero_from_ones (n - 2 ^ j) (omega arith) in
    (j, omega arith)

bits_of : (k : ℕ) → ones (2 ^ k) ≡ 1
unfolding ones
bits_of k = let whole : 2 ^ k ≡ 1 * 2 ^ k + 0 = omega arith in ap ones whole ∙ ones_cat k 1 0 (pow_pos k)

exponent_most : (k : ℕ) (most : ℕ) → 2 ^ k ≤ 2 ^ most → k ≤ most
exponent_most k most le =
    ⊎_elim (λ (above : most < k). absurd (omega (arith, pow_below most k above))) (λ (fits : k ≤ most). fits) (cases_lt most k)

pub is_alignment : (n : ℕ) → n ≤ 2 ^ 21 → ones n ≡ 1 → IsAlignment n
is_alignment n most one =
    let bit = bit_of n (omega arith) one in
    let is : n ≡ 2 ^ bit.0 = bit.1 in
    (bit.0, exponent_most bit.0 21 (omega arith), is)

power_most : (k : ℕ) → k ≤ 21 → 2 ^ k ≤ 2 ^ 21
power_most k le =
    ⊎_elim (λ (less : k < 21). omega (arith, pow_below k 21 less)) (λ (ge : 21 ≤ k). let e : k ≡ 21 = omega arith in rw e (omega arith)) (cases_lt k 21)

pub alignment_most : (n : ℕ) → IsAlignment n → n ≤ 2 ^ 21
alignment_most n h = let is : n ≡ 2 ^ h.0 = h.2 in omega (arith, power_most h.0 h.1)

pub alignment_ones : (n : ℕ) → IsAlignment n → ones n ≡ 1
alignment_ones n h = ap ones h.2 ∙ bits_of h.0

-- ---- multiples
-- a multiple of a power is one of each lower power
lower : (j k a : ℕ) → j ≤ k → a % 2 ^ k ≡ 0 → a % 2 ^ j ≡ 0
lower j k a le whole =
    let e : k - j + j ≡ k = omega arith in
    let parts = mod-pow-add a (k - j) j in
    let all : a % 2 ^ (k - j + j) ≡ 0 = subst (λ (n : ℕ). a % 2 ^ n ≡ 0) (sym e) whole in
    omega arith

sum_whole : (m a b : ℕ) → 0 < m → a % m ≡ 0 → b % m ≡ 0 → (a + b) % m ≡ 0
sum_whole m a b some p q =
    let a_is = div-add-mod' a m in
    let b_is = div-add-mod' b m in
    let e : a + b ≡ (a / m + b / m) * m + 0 = omega arith in
    ap (λ (n : ℕ). n % m) e ∙ mod-mul-add (a / m + b / m) m 0 some

product_whole : (m n a : ℕ) → 0 < m → a % m ≡ 0 → (n * a) % m ≡ 0
product_whole m n a some p =
    let a_is : a ≡ a / m * m = omega (arith, div-add-mod' a m) in
    let e : n * a ≡ (n * (a / m)) * m + 0 = ap (λ (x : ℕ). n * x) a_is ∙ omega arith in
    ap (λ (x : ℕ). x % m) e ∙ mod-mul-add (n * (a / m)) m 0 some

-- ---- the laws
pub pages_aligned : (align a : ℕ) → IsAlignment align → a % max align 4096 ≡ 0 → a % align ≡ 0
pages_aligned align a h whole =
    let is : align ≡ 2 ^ h.0 = h.2 in
    ⊎_elim (λ (above : 4096 < align). let e : max align 4096 ≡ align = omega arith in subst (λ (m : ℕ). a % m ≡ 0) e whole)
    (λ (most : align ≤ 4096).
    let e : max align 4096 ≡ 2 ^ 12 = omega arith in
    let page : a % 2 ^ 12 ≡ 0 = subst (λ (m : ℕ). a % m ≡ 0) e whole in
    subst (λ (m : ℕ). a % m ≡ 0) (sym is) (lower h.0 12 a (exponent_most h.0 12 (omega arith)) page))
    (cases_lt 4096 align)

-- a multiple of a page is one of each alignment up to it
pub page_whole : (align a : ℕ) → IsAlignment align → align ≤ 4096 → a % 4096 ≡ 0 → a % align ≡ 0
page_whole align a h most page =
    let e : max align 4096 ≡ 4096 = omega arith in
    pages_aligned align a h (subst (λ (m : ℕ). a % m ≡ 0) (sym e) page)

pub chooses : (asked align : ℕ) (class : ClassId) → IsAlignment align → IsAlignedKindOf asked align (Small class) → IsServedBy align class.0
chooses asked align class h kind =
    ⊎_elim (λ (above : 16 < align).
    let wide = kind.wide above in
    record { below = wide.2.serves.below; pages = wide.0; multiple = wide.2.serves.multiple })
    (λ (most : align ≤ 16).
    let below : class.0 < 49 = (kind.narrow most).1.below in
    let is : align ≡ 2 ^ h.0 = h.2 in
    record {
      below = below;
      pages = omega arith;
      multiple = subst (λ (m : ℕ). slot_size class.0 % m ≡ 0) (sym is)
          (lower h.0 4 (slot_size class.0) (exponent_most h.0 4 (omega arith)) (is_bounded class.0 below).slot_whole);
    })
    (cases_lt 16 align)

pub places_aligned : (p : Shape) (asked align a : ℕ) → IsShape p → p.slot ≡ slot_size p.class.0
    → IsAlignment align → IsAlignedKindOf asked align (Small p.class) → IsPlace p a → a % align ≡ 0
places_aligned p asked align a shape slot h kind place =
    let at : IsPlaceOf p a (slab_of p a) (slot_of p a) = place_is p a (slab_of p a) (slot_of p a) place in
    let served = chooses asked align p.class h kind in
    let is : align ≡ 2 ^ h.0 = h.2 in
    let some : 0 < align = omega (arith, pow_pos h.0) in
    let first : p.first % align ≡ 0 = page_whole align p.first h served.pages shape.first_pages in
    let slab : p.slab % align ≡ 0 = page_whole align p.slab h served.pages shape.slab_pages in
    let whole : p.slot % align ≡ 0 = subst (λ (n : ℕ). n % align ≡ 0) (sym slot) served.multiple in
    let base : (p.first + slab_of p a * p.slab) % align ≡ 0 =
    sum_whole align p.first (slab_of p a * p.slab) some first (product_whole align (slab_of p a) p.slab some slab) in
    subst (λ (n : ℕ). n % align ≡ 0) (sym at.is)
    (sum_whole align (p.first + slab_of p a * p.slab) (slot_of p a * p.slot) some base (product_whole align (slot_of p a) p.slot some whole))
