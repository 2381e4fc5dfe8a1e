-- Places as the test of an address finds them.
use Rattle.std.proofs.Common.{◌≡◌, ℕ, Bool, cond, nat_lt, List, [], ◌∷◌, length, ◌-◌, ◌%◌, ◌<◌, ◌≤◌, ◌^◌, true, false, Option, Some, None, is_some, sym, refl, arith, true≢false}
use Rattle.std.proofs.lemmas.Nat.{div-add-mod'}
use Rattle.std.proofs.lemmas.Bool.{ltb-true}
use Rattle.hm_class_rules.specs.State.{unopened}
use Rattle.hm_sizes.specs.declared.shape.Shape.{Shape}
use Rattle.hm_sizes.specs.Shapes.{IsShape, IsPlace, PlaceGives, has_bytes, usable, slab_of, slot_of, slab_at}
use Rattle.hm_sizes.proofs.PlaceTest.{place_is, place_tested, shape_places, slot_row}

pub tested : (p : Shape) (a : ℕ) (r : Option (ℕ × ℕ)) → IsShape p → PlaceGives p a r → (is_some r ≡ true → IsPlace p a) × (IsPlace p a → is_some r ≡ true)
tested p a None shape h = (λ e. absurd (true≢false (sym e)), λ is. absurd (h (slab_of p a) (slot_of p a) (place_is p a (slab_of p a) (slot_of p a) is)))
tested p a (Some r) shape h = (λ e. place_tested p a r.0 r.1 (shape_places p shape) h, λ is. refl)

-- ---- bounds
slot_fits : (p : Shape) → IsShape p → p.slot ≤ p.slab
slot_fits p shape = omega (arith, slot_row p.slot 0 p.slots shape.slots_some, shape.slots_fit)

pub slab_some : (p : Shape) → IsShape p → 16 ≤ p.slab
slab_some p shape = omega (arith, slot_fits p shape, shape.slot_least)

pub usable_most : (p : Shape) → IsShape p → usable p ≤ 131072
usable_most p shape = of (has_bytes p)
  where
    of : (b : Bool) → cond b (p.slot - 8) 0 ≤ 131072
    of true = omega (arith, slot_fits p shape, shape.slab_most)
    of false = omega arith

pub place_below : (p : Shape) (a : ℕ) → IsShape p → IsPlace p a → a < 2 ^ 46
place_below p a shape is =
    let h = place_is p a (slab_of p a) (slot_of p a) is in
    omega (arith, h.is, slot_row p.slot (slot_of p a) p.slots h.slot, slot_row p.slab (slab_of p a) p.limit h.below, shape.slots_fit, shape.space, shape.slot_least)

-- how far an address lies in its slab
pub offset_is : (p : Shape) (a : ℕ) → IsShape p → (a - p.first) % p.slab ≡ a - slab_at p (slab_of p a)
offset_is p a shape = omega (arith, slab_some p shape, div-add-mod' (a - p.first) p.slab)

-- a fresh number is below the limit
pub next_below : (p : Shape) (shut : List ℕ) (next : ℕ) → IsShape p → is_some (unopened p shut next) ≡ true → length shut ≡ 0 → next < 2 ^ 32
next_below p (m ∷ ms) next shape some none = absurd (omega arith)
next_below p [] next shape some none =
    elim (nat_lt next p.limit) as (λ b. nat_lt next p.limit ≡ b → is_some (cond b (Some next) None) ≡ true → next < 2 ^ 32) [
      | true ↦ λ is e. omega (arith, ltb-true next p.limit is, shape.limit_most)
      | false ↦ λ is e. absurd (true≢false (sym e))
    ] refl some
