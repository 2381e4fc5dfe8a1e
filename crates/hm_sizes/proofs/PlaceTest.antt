-- The slab and the slot of a place are the quotients of its offset.
use Rattle.std.proofs.Common.{◌≡◌, ℕ, ◌+◌, ◌-◌, ◌*◌, ◌/◌, ◌%◌, ◌<◌, ◌≤◌, ◌==◌, nat_lt, true, not, ◌&&◌, sym, ◌∙◌, ap, arith}
use Rattle.std.proofs.lemmas.Nat.{rows, div-mul-add, mod-mul-add}
use Rattle.std.proofs.lemmas.Bool.{and_parts, and_from, ltb-true, lt-ltb, eqb-true, eqb-false, eq-eqb, ne_eqb, not-true, not_from_false}
use Rattle.hm_sizes.specs.declared.shape.Shape.{Shape}
use Rattle.hm_sizes.specs.Shapes.{place, slab_of, slot_of, is_slot, is_guard, IsPlace, IsPlaceOf, IsShape}

-- what places of a shape need
pub record HasPlaces (p : Shape) : Type 0 where
  pub slot_some : 1 ≤ p.slot
  pub slots_fit : p.slots * p.slot ≤ p.slab

pub slot_row : (slot i n : ℕ) → i < n → i * slot + slot ≤ n * slot
slot_row slot i n lt = grind (arith, rows)

-- the numbers of a place, read from its address
pub record IsRead (p : Shape) (a n i : ℕ) : Type 0 where
  pub slab : slab_of p a ≡ n
  pub slot : slot_of p a ≡ i
  pub whole : ((a - p.first) % p.slab) % p.slot ≡ 0

pub place_read : (p : Shape) (a n i : ℕ) → HasPlaces p → IsPlaceOf p a n i → IsRead p a n i
place_read p a n i has h =
    let inside : i * p.slot + p.slot ≤ p.slab = omega (arith, slot_row p.slot i p.slots h.slot, has.slots_fit) in
    let lt : i * p.slot < p.slab = omega (arith, has.slot_some) in
    let off : a - p.first ≡ n * p.slab + i * p.slot = omega (arith, h.is) in
    let some : 0 < p.slot = omega (arith, has.slot_some) in
    let rest : (a - p.first) % p.slab ≡ i * p.slot + 0 =
    ap (λ (x : ℕ). x % p.slab) off ∙ mod-mul-add n p.slab (i * p.slot) lt ∙ omega arith in
    record {
      slab = ap (λ (x : ℕ). x / p.slab) off ∙ div-mul-add n p.slab (i * p.slot) lt;
      slot = ap (λ (x : ℕ). x / p.slot) rest ∙ div-mul-add i p.slot 0 some;
      whole = ap (λ (x : ℕ). x % p.slot) rest ∙ mod-mul-add i p.slot 0 some;
    }

pub shape_places : (p : Shape) → IsShape p → HasPlaces p
shape_places p shape = record { slot_some = omega (arith, shape.slot_least); slots_fit = shape.slots_fit }

-- ---- the test
other : (a b : ℕ) → not (a == b) ≡ true → a ≡ b → ⊥
other a b e = eqb-false a b (not-true (a == b) e)

pub place_is : (p : Shape) (a n i : ℕ) → is_slot p a n i ≡ true → IsPlaceOf p a n i
place_is p a n i e =
    let x = and_parts (nat_lt n p.limit) (not (is_guard p n) && (nat_lt i p.slots && (place p n i == a))) e in
    let y = and_parts (not (is_guard p n)) (nat_lt i p.slots && (place p n i == a)) x.1 in
    let z = and_parts (nat_lt i p.slots) (place p n i == a) y.1 in
    record { below = ltb-true n p.limit x.0; no_guard = other _ _ y.0; slot = ltb-true i p.slots z.0; is = sym (eqb-true (place p n i) a z.1) }

passes_test : (p : Shape) (a n i : ℕ) → IsPlaceOf p a n i → is_slot p a n i ≡ true
passes_test p a n i h =
    and_from _ _ (lt-ltb n p.limit h.below)
    (and_from _ _ (not_from_false _ (ne_eqb _ _ h.no_guard)) (and_from _ _ (lt-ltb i p.slots h.slot) (eq-eqb (place p n i) a (sym h.is))))

pub place_tested : (p : Shape) (a n i : ℕ) → HasPlaces p → IsPlaceOf p a n i → IsPlace p a
place_tested p a n i has h =
    let read : IsRead p a n i = place_read p a n i has h in
    ap (λ (x : ℕ). is_slot p a x (slot_of p a)) read.slab ∙ ap (λ (x : ℕ). is_slot p a n x) read.slot ∙ passes_test p a n i h
