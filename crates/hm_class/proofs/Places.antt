-- The arithmetic of places.
use Rattle.std.proofs.Common.{◌≡◌, ⊎_elim, ℕ, ◌+◌, ◌-◌, ◌*◌, ◌/◌, ◌%◌, ◌<◌, ◌≤◌, Bool, true, cond, sym, ◌∙◌, ap, arith}
use Rattle.std.proofs.lemmas.Nat.{div-mul-add, mod-mul-add, div-add-mod'}
use Rattle.std.proofs.lemmas.Bool.{cases_lt}
use Rattle.hm_sizes.proofs.PlaceTest.{place_tested, shape_places, slot_row}
use Rattle.hm_sizes.specs.declared.shape.Shape.{Shape}
use Rattle.hm_class_rules.proofs.Legal.{slab_row}
use Rattle.hm_sizes.specs.Shapes.{IsShape, IsPlaceOf, IsPlace, place, slab_of, slot_of, has_bytes, usable}

pub slab_some : (p : Shape) → IsShape p → 16 ≤ p.slab
slab_some p shape = omega (arith, slot_row p.slot 0 p.slots shape.slots_some, shape.slot_least, shape.slots_fit)

-- a place lies within its slab
pub place_within : (p : Shape) (i : ℕ) → IsShape p → i < p.slots → i * p.slot + p.slot ≤ p.slab
place_within p i shape lt = omega (arith, slot_row p.slot i p.slots lt, shape.slots_fit)

offset : (p : Shape) (n i : ℕ) → place p n i - p.first ≡ n * p.slab + i * p.slot
offset p n i = omega arith

pub slab_of_place : (p : Shape) (n i : ℕ) → IsShape p → i < p.slots → slab_of p (place p n i) ≡ n
slab_of_place p n i shape lt = ap (λ (x : ℕ). x / p.slab) (offset p n i) ∙ div-mul-add n p.slab (i * p.slot) (omega (arith, place_within p i shape lt, shape.slot_least))

pub slot_of_place : (p : Shape) (n i : ℕ) → IsShape p → i < p.slots → slot_of p (place p n i) ≡ i
slot_of_place p n i shape lt =
    let rest : (place p n i - p.first) % p.slab ≡ i * p.slot + 0 =
    ap (λ (x : ℕ). x % p.slab) (offset p n i) ∙ mod-mul-add n p.slab (i * p.slot) (omega (arith, place_within p i shape lt, shape.slot_least)) ∙ omega arith in
    ap (λ (x : ℕ). x / p.slot) rest ∙ div-mul-add i p.slot 0 (omega (arith, shape.slot_least))

-- places are the same only where their numbers are
pub place_same : (p : Shape) (n i m j : ℕ) → IsShape p → i < p.slots → j < p.slots → place p n i ≡ place p m j → (n ≡ m) × (i ≡ j)
place_same p n i m j shape lt lt' e = (
  sym (slab_of_place p n i shape lt) ∙ ap (λ (a : ℕ). slab_of p a) e ∙ slab_of_place p m j shape lt',
  sym (slot_of_place p n i shape lt) ∙ ap (λ (a : ℕ). slot_of p a) e ∙ slot_of_place p m j shape lt',
)

pub place_test : (p : Shape) (a n i : ℕ) → IsShape p → IsPlaceOf p a n i → IsPlace p a
place_test p a n i shape h = place_tested p a n i (shape_places p shape) h

-- a slab begins at a page
pub place_whole : (p : Shape) (n : ℕ) → IsShape p → place p n 0 % 4096 ≡ 0
place_whole p n shape =
    let q : ℕ = p.slab / 4096 in
    let pages : p.slab ≡ q * 4096 = omega (arith, div-add-mod' p.slab 4096, shape.slab_pages) in
    let rest : (n * p.slab) % 4096 ≡ 0 = ap (λ (x : ℕ). x % 4096) (ap (λ (x : ℕ). n * x) pages ∙ turned n q) ∙ mod-mul-add (n * q) 4096 0 (omega arith) in
    sum p.first (n * p.slab) (place p n 0) (omega arith) shape.first_pages rest
  where
    turned : (n q : ℕ) → n * (q * 4096) ≡ (n * q) * 4096 + 0
    turned n q = omega arith

    sum : (a b c : ℕ) → c ≡ a + b → a % 4096 ≡ 0 → b % 4096 ≡ 0 → c % 4096 ≡ 0
    sum a b c e f g = omega arith

-- slabs with different numbers begin at different addresses
pub slab_apart : (first slab m n : ℕ) → 1 ≤ slab → first + m * slab ≡ first + n * slab → m ≡ n
slab_apart first slab m n some e =
    ⊎_elim (λ lt. absurd (omega (arith, slab_row first slab m n lt))) (λ ge. ⊎_elim (λ lt. absurd (omega (arith, slab_row first slab n m lt))) (λ le. omega arith) (cases_lt n m)) (cases_lt m n)

-- a slot with bytes has some that are usable, and then the canary's 8
pub usable_within : (p : Shape) → IsShape p → has_bytes p ≡ true → (usable p + 8 ≡ p.slot) × (0 < usable p)
usable_within p shape own =
    let is : usable p ≡ p.slot - 8 = ap (λ (b : Bool). cond b (p.slot - 8) 0) own in
    (omega (arith, is, shape.slot_least), omega (arith, is, shape.slot_least))
