-- What the slots say of the state.
use Rattle.std.proofs.Common.{◌≡◌, ℕ, zero, suc, ◌+◌, ◌<◌, ◌≤◌, Bool, true, false, cond, not, ◌||◌, ◌&&◌, List, [], ◌∷◌, length, slice_get, Option, Some, None, sym, ◌∙◌, ap, refl, arith, true≢false}
use Rattle.std.specs.List.{list_any, list_all, range_with_len}
use Rattle.std.specs.Option.{option_and_then, option_map_or}
use Rattle.std.proofs.lemmas.Option.{none-some}
use Rattle.hm_sizes.specs.declared.shape.Shape.{Shape}
use Rattle.hm_sizes.specs.Shapes.{IsShape, place}
use Rattle.hm_model.specs.Maps.{among}
use Rattle.hm_class_rules.specs.State.{State, is_open, is_taken, is_free, has_free, is_empty, is_partial}
use Rattle.hm_class_rules.specs.Kinds.{Partial, Empty, Neither, kind}
use Rattle.hm_class_rules.proofs.Changes.{kind_neither}
use Rattle.hm_class_rules.proofs.Legal.{empty_open}
use Rattle.hm_class_rules.proofs.Listed.{any_none}
use Rattle.hm_slab_meta.specs.Uses.{SlotUse}
use Rattle.hm_slab_meta.specs.Uses.{Never, Free, Live, Quarantined, Condemned, is_available}
use Rattle.hm_class.specs.Uses.{Uses, SlabUse, lives, is_condemned, is_quarantined, occupied, has_occupied, has_available, is_partly, is_unused, kind_of, kind_at, slab_in, use_at, passes_at}
use Rattle.hm_class.specs.Kept.{Shows}

-- ---- one slot
occupied_is : (o : Option SlotUse) → (option_map_or lives o false || (option_map_or is_quarantined o false || option_map_or is_condemned o false)) ≡ option_map_or occupied o false
occupied_is None = refl
occupied_is (Some Never) = refl
occupied_is (Some Free) = refl
occupied_is (Some Live) = refl
occupied_is (Some Quarantined) = refl
occupied_is (Some (Condemned given)) = refl

-- a slot is available where it is not occupied
pub available_test : (u : SlotUse) → not (occupied u) ≡ is_available u
available_test Never = refl
available_test Free = refl
available_test Live = refl
available_test Quarantined = refl
available_test (Condemned given) = refl

-- a place is taken where its slot is occupied
pub taken_is : (p : Shape) (uses : Uses) (s : State) (n i : ℕ) → Shows p uses s → i < p.slots → is_taken s (place p n i) ≡ passes_at occupied uses n i
taken_is p uses s n i h lt =
    ap (λ (b : Bool). b || (among (place p n i) s.quarantined || among (place p n i) s.condemned)) (h.live n i lt)
    ∙ ap (λ (b : Bool). passes_at lives uses n i || (b || among (place p n i) s.condemned)) (h.quarantined n i lt)
    ∙ ap (λ (b : Bool). passes_at lives uses n i || (passes_at is_quarantined uses n i || b)) (h.condemned n i lt)
    ∙ occupied_is (use_at uses n i)

open_is : (p : Shape) (uses : Uses) (s : State) (n : ℕ) (b : SlabUse) → Shows p uses s → slab_in uses n ≡ Some b → is_open s n ≡ b.opened
open_is p uses s n b h is = h.opens n ∙ ap (λ (o : Option SlabUse). option_map_or (λ (b : SlabUse). b.opened) o false) is

-- a place of an open slab is available where its slot is
pub free_is : {p : Shape} {uses : Uses} {s : State} (n i : ℕ) {b : SlabUse} {u : SlotUse} → Shows p uses s → slab_in uses n ≡ Some b → b.opened ≡ true → i < p.slots → slice_get b.slots i ≡ Some u → is_free p s n i ≡ is_available u
free_is {p = p} {uses = uses} {s = s} n i {b = b} {u = u} h is on lt at =
    ap (λ (x : Bool). x && not (is_taken s (place p n i))) (open_is p uses s n b h is ∙ on)
    ∙ ap (λ (x : Bool). not x) (taken_is p uses s n i h lt)
    ∙ ap (λ (o : Option SlabUse). not (option_map_or occupied (option_and_then (λ (b : SlabUse). slice_get b.slots i) o) false)) is
    ∙ ap (λ (o : Option SlotUse). not (option_map_or occupied o false)) at ∙ available_test u

-- ---- one slab
-- a test of the numbers from k on is one of the elements of a list
any_range : {X : Type 0} (f : ℕ → Bool) (g : X → Bool) (k : ℕ) (xs : List X) → ((i : ℕ) (x : X) → slice_get xs i ≡ Some x → f (k + i) ≡ g x) → list_any f (range_with_len k (length xs)) ≡ list_any g xs
any_range f g k [] same = refl
any_range f g k (x ∷ xs) same =
    ap (λ (b : Bool). b || list_any f (range_with_len (k + 1) (length xs))) (ap f (omega arith) ∙ same 0 x refl)
    ∙ ap (λ (b : Bool). g x || b) (any_range f g (k + 1) xs (λ i y is. ap f (omega arith) ∙ same (suc i) y is))

all_range : {X : Type 0} (f : ℕ → Bool) (g : X → Bool) (k : ℕ) (xs : List X) → ((i : ℕ) (x : X) → slice_get xs i ≡ Some x → f (k + i) ≡ g x) → list_all f (range_with_len k (length xs)) ≡ list_all g xs
all_range f g k [] same = refl
all_range f g k (x ∷ xs) same =
    ap (λ (b : Bool). b && list_all f (range_with_len (k + 1) (length xs))) (ap f (omega arith) ∙ same 0 x refl)
    ∙ ap (λ (b : Bool). g x && b) (all_range f g (k + 1) xs (λ i y is. ap f (omega arith) ∙ same (suc i) y is))

pub all_available : (us : List SlotUse) → list_all is_available us ≡ not (has_occupied us)
all_available [] = refl
all_available (Live ∷ us) = refl
all_available (Quarantined ∷ us) = refl
all_available (Condemned g ∷ us) = refl
all_available (Free ∷ us) = all_available us
all_available (Never ∷ us) = all_available us

within : {X : Type 0} (xs : List X) (i : ℕ) (x : X) → slice_get xs i ≡ Some x → i < length xs
within [] i x e = absurd (none-some x e)
within (y ∷ xs) zero x e = omega arith
within (y ∷ xs) (suc i) x e = omega (arith, within xs i x e)

module _ (p : Shape) (uses : Uses) (s : State) (n : ℕ) (b : SlabUse) (h : Shows p uses s) (is : slab_in uses n ≡ Some b) (on : b.opened ≡ true) where
  each : (i : ℕ) (u : SlotUse) → slice_get b.slots i ≡ Some u → is_free p s n (0 + i) ≡ is_available u
  each i u at =
      ap (λ (j : ℕ). is_free p s n j) (zero-first i) ∙ free_is n i h is on (omega (arith, within b.slots i u at, h.slots n b is)) at
    where
      zero-first : (i : ℕ) → 0 + i ≡ i
      zero-first i = omega arith

  has_free_is : has_free p s n ≡ has_available b.slots
  has_free_is = ap (λ (k : ℕ). list_any (is_free p s n) (range_with_len 0 k)) (sym (h.slots n b is)) ∙ any_range (is_free p s n) is_available 0 b.slots each

  empty_is : is_empty p s n ≡ not (has_occupied b.slots)
  empty_is = ap (λ (k : ℕ). list_all (is_free p s n) (range_with_len 0 k)) (sym (h.slots n b is)) ∙ all_range (is_free p s n) is_available 0 b.slots each ∙ all_available b.slots

  partial_is : is_partial p s n ≡ is_partly b
  partial_is =
      ap (λ (x : Bool). x && not (is_empty p s n)) has_free_is ∙ ap (λ (x : Bool). has_available b.slots && not x) empty_is ∙ turned (has_available b.slots) (has_occupied b.slots)
    where
      turned : (a b : Bool) → (a && not (not b)) ≡ (b && a)
      turned true true = refl
      turned true false = refl
      turned false true = refl
      turned false false = refl

itself : (b : Bool) → b ≡ (b && true)
itself true = refl
itself false = refl

-- where no slot is occupied one is available
pub unused_is : (us : List SlotUse) → 1 ≤ length us → not (has_occupied us) ≡ (not (has_occupied us) && has_available us)
unused_is [] some = absurd (omega arith)
unused_is (Live ∷ us) some = refl
unused_is (Quarantined ∷ us) some = refl
unused_is (Condemned g ∷ us) some = refl
unused_is (Free ∷ us) some = itself (not (has_occupied us))
unused_is (Never ∷ us) some = itself (not (has_occupied us))

-- ---- what a slab is
pub by_false : (b : Bool) → (b ≡ true → ⊥) → b ≡ false
by_false true h = absurd (h refl)
by_false false h = refl

pub kind_shut : (p : Shape) (s : State) (n : ℕ) → IsShape p → is_open s n ≡ false → kind p s n ≡ Neither
kind_shut p s n shape off =
    kind_neither p s n
    (ap (λ (b : Bool). b && not (is_empty p s n)) (any_none (is_free p s n) (range_with_len 0 p.slots) (λ i. ap (λ (b : Bool). b && not (is_taken s (place p n i))) off)))
    (by_false (is_empty p s n) (λ e. true≢false (sym (empty_open p s n shape e) ∙ off)))

kind_open : (p : Shape) (uses : Uses) (s : State) (n : ℕ) (b : SlabUse) → IsShape p → Shows p uses s → slab_in uses n ≡ Some b → b.opened ≡ true → kind p s n ≡ kind_of b
kind_open p uses s n b shape h is on =
    ap (λ (x : Bool). cond x Partial (cond (is_empty p s n) Empty Neither)) (partial_is p uses s n b h is on)
    ∙ ap (λ (x : Bool). cond (is_partly b) Partial (cond x Empty Neither)) (empty_is p uses s n b h is on ∙ unused_is b.slots (omega (arith, h.slots n b is, shape.slots_some)))
    ∙ ap (λ (x : Bool). cond (not x) Neither (cond (is_partly b) Partial (cond (is_unused b) Empty Neither))) (sym on)

-- the slots of a slab say what it is
pub kind_is : (p : Shape) (uses : Uses) (s : State) (n : ℕ) → IsShape p → Shows p uses s → kind p s n ≡ kind_at uses n
kind_is p uses s n shape h = of (slab_in uses n) refl
  where
    by_opened : (b : SlabUse) (t : Bool) → slab_in uses n ≡ Some b → b.opened ≡ t → kind p s n ≡ kind_of b
    by_opened b true is on = kind_open p uses s n b shape h is on
    by_opened b false is off =
        kind_shut p s n shape (open_is p uses s n b h is ∙ off)
        ∙ ap (λ (x : Bool). cond (not x) Neither (cond (is_partly b) Partial (cond (is_unused b) Empty Neither))) (sym off)

    of : (o : Option SlabUse) → slab_in uses n ≡ o → kind p s n ≡ kind_at uses n
    of None is = kind_shut p s n shape (h.opens n ∙ ap (λ (o : Option SlabUse). option_map_or (λ (b : SlabUse). b.opened) o false) is) ∙ ap (λ (o : Option SlabUse). option_map_or kind_of o Neither) (sym is)
    of (Some b) is = by_opened b b.opened is refl ∙ ap (λ (o : Option SlabUse). option_map_or kind_of o Neither) (sym is)
