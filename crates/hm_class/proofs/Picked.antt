-- The slot that is picked is the first available one from the start slot on, cyclically.
use Rattle.std.proofs.Common.{◌≡◌, ⊎_elim, ℕ, ◌+◌, ◌-◌, ◌<◌, ◌≤◌, Bool, true, false, not, List, length, get_or, slice_get, take, drop, Option, Some, None, option_map, sym, ◌∙◌, ap, subst, refl, arith, true≢false}
use Rattle.std.specs.List.{position}
use Rattle.std.specs.Option.{option_and_then, option_map_or}
use Rattle.std.proofs.lemmas.Bool.{cases_lt}
use Rattle.std.proofs.lemmas.List.{get_or-drop, get_or-take, length-drop, length-take}
use Rattle.std.proofs.lemmas.List.Folds.{Any-from_list_any}
use Rattle.std.proofs.lemmas.List.Quantifiers.{position-Some}
use Rattle.std.proofs.lemmas.Option.{slice_get-get_or, same_Some}
use Rattle.hm_sizes.specs.declared.shape.Shape.{Shape}
use Rattle.hm_sizes.specs.Shapes.{place}
use Rattle.hm_class_rules.specs.State.{State, is_free}
use Rattle.hm_class_rules.specs.Drawn.{first_free}
use Rattle.hm_class_rules.specs.DrawnLaws.{ComesBefore}
use Rattle.hm_class_rules.proofs.FirstFree.{finds_first}
use Rattle.hm_slab_meta.specs.Uses.{SlotUse, Never, is_available, or_else, first_from}
use Rattle.hm_class.specs.Uses.{Uses, SlabUse, occupied, has_available, first_at, slab_in}
use Rattle.hm_class.specs.Kept.{Shows}
use Rattle.hm_class.specs.Finds.{HasFirst}
use Rattle.hm_class.proofs.Found.{position_none}
use Rattle.hm_class.proofs.Shown.{free_is, by_false, available_test}

-- slot j is available, and no slot that comes before it from slot i on
pub record IsFirst (slots : List SlotUse) (i j : ℕ) : Type 0 where
  pub within : j < length slots
  pub available : is_available (get_or slots j Never) ≡ true
  pub first : (k : ℕ) → k < length slots → ComesBefore i k j → is_available (get_or slots k Never) ≡ false

none_passes : (xs : List SlotUse) (k : ℕ) → position is_available xs ≡ None → k < length xs → is_available (get_or xs k Never) ≡ false
none_passes xs k e lt = by_false _ (λ yes. position_none is_available xs e k (get_or xs k Never) (slice_get-get_or xs k Never lt) yes)

from_found : (slots : List SlotUse) (i j : ℕ) → i ≤ length slots → position is_available (drop i slots) ≡ Some j → IsFirst slots i (i + j)
from_found slots i j le e =
    let r = position-Some is_available (drop i slots) j Never e in
    record {
      within = omega (arith, r.0, length-drop i slots, le);
      available = ap (λ (u : SlotUse). is_available u) (sym (get_or-drop i slots j Never)) ∙ r.1;
      first = λ k lt before. ⊎_elim
          (λ here. ap (λ (n : ℕ). is_available (get_or slots n Never)) (omega (arith, here.0)) ∙ ap (λ (u : SlotUse). is_available u) (sym (get_or-drop i slots (k - i) Never)) ∙ failed (is_available (get_or (drop i slots) (k - i) Never)) (r.2 (k - i) (omega (arith, here.0, here.1))))
          (λ round. absurd (omega (arith, round.0)))
          before;
    }
  where
    failed : (b : Bool) → b ≡ false → b ≡ false
    failed b e = e

round_found : (slots : List SlotUse) (i j : ℕ) → i ≤ length slots → position is_available (drop i slots) ≡ None → position is_available (take i slots) ≡ Some j → IsFirst slots i j
round_found slots i j le none e =
    let r = position-Some is_available (take i slots) j Never e in
    let lt : j < i = omega (arith, r.0, length-take i slots, le) in
    record {
      within = omega (arith, lt, le);
      available = ap (λ (u : SlotUse). is_available u) (sym (get_or-take i slots j Never lt)) ∙ r.1;
      first = λ k within before. ⊎_elim
          (λ here. absurd (omega (arith, here.0, here.1, lt)))
          (λ round. ⊎_elim
          (λ ge. ap (λ (n : ℕ). is_available (get_or slots n Never)) (omega (arith, ge)) ∙ ap (λ (u : SlotUse). is_available u) (sym (get_or-drop i slots (k - i) Never)) ∙ none_passes (drop i slots) (k - i) none (omega (arith, length-drop i slots, within, ge, le)))
          (λ less. ap (λ (u : SlotUse). is_available u) (sym (get_or-take i slots k Never (omega (arith, less, lt)))) ∙ r.2 k less)
          round.1)
          before;
    }

-- what the search finds
pub is_first : (slots : List SlotUse) (i j : ℕ) → i ≤ length slots → first_from i slots ≡ Some j → IsFirst slots i j
is_first slots i j le e = of (position is_available (drop i slots)) refl e
  where
    of : (o : Option ℕ) → position is_available (drop i slots) ≡ o → or_else i o (position is_available (take i slots)) ≡ Some j → IsFirst slots i j
    of None none e = round_found slots i j le none e
    of (Some k) some e = subst (λ (n : ℕ). IsFirst slots i n) (same_Some (i + k) j e) (from_found slots i k le some)

-- it finds one where there is one
pub some_first : (slots : List SlotUse) (i : ℕ) → i ≤ length slots → has_available slots ≡ true → (j : ℕ) × (first_from i slots ≡ Some j)
some_first slots i le has = of (position is_available (drop i slots)) (position is_available (take i slots)) refl refl
  where
    of : (o q : Option ℕ) → position is_available (drop i slots) ≡ o → position is_available (take i slots) ≡ q → (j : ℕ) × (or_else i o q ≡ Some j)
    of (Some k) q some e = (i + k, refl)
    of None (Some k) none e = (k, refl)
    of None None none none' =
        let r = Any-from_list_any is_available slots has in
        let here : is_available (get_or slots r.0 Never) ≡ true = ap (λ (o : Option SlotUse). option_map_or is_available o false) (sym (slice_get-get_or slots r.0 Never r.2) ∙ slice_get-get_or slots r.0 r.1 r.2) ∙ ap is_available r.3 ∙ r.4 in
        absurd (⊎_elim
        (λ lt. true≢false (sym here ∙ ap (λ (u : SlotUse). is_available u) (sym (get_or-take i slots r.0 Never lt)) ∙ none_passes (take i slots) r.0 none' (omega (arith, length-take i slots, lt, le))))
        (λ ge. true≢false (sym here ∙ ap (λ (n : ℕ). is_available (get_or slots n Never)) (omega (arith, ge)) ∙ ap (λ (u : SlotUse). is_available u) (sym (get_or-drop i slots (r.0 - i) Never))
        ∙ none_passes (drop i slots) (r.0 - i) none (omega (arith, length-drop i slots, ge, r.2))))
        (cases_lt r.0 i))

pub not_occupied : (u : SlotUse) → is_available u ≡ true → occupied u ≡ false
not_occupied u e = turned (occupied u) (available_test u ∙ e)
  where
    turned : (b : Bool) → not b ≡ true → b ≡ false
    turned true e = sym e
    turned false e = refl

-- a slab with an available slot has a first one from each slot on
pub has_first : (p : Shape) (uses : Uses) (n i : ℕ) (b : SlabUse) → slab_in uses n ≡ Some b → length b.slots ≡ p.slots → i < p.slots → has_available b.slots ≡ true → HasFirst p uses n i
has_first p uses n i b is whole lt has =
    let r = some_first b.slots i (omega (arith, lt, whole)) has in
    let f = is_first b.slots i r.0 (omega (arith, lt, whole)) r.1 in
    record {
      index = r.0;
      is = ap (λ (o : Option SlabUse). option_and_then (λ (b : SlabUse). first_from i b.slots) o) is ∙ r.1;
      within = omega (arith, f.within, whole);
      available = ap (λ (o : Option SlabUse). option_map occupied (option_and_then (λ (b : SlabUse). slice_get b.slots r.0) o)) is
          ∙ ap (λ (o : Option SlotUse). option_map occupied o) (slice_get-get_or b.slots r.0 Never f.within) ∙ ap (λ (x : Bool). Some x) (not_occupied (get_or b.slots r.0 Never) f.available);
    }

-- and it is the one that the rules pick
pub picked : {p : Shape} {uses : Uses} {s : State} (n i j : ℕ) {b : SlabUse} → Shows p uses s → slab_in uses n ≡ Some b → b.opened ≡ true → i < p.slots → first_at uses n i ≡ Some j → first_free p s n i ≡ Some (place p n j)
picked {p = p} {uses = uses} {s = s} n i j {b = b} h is on lt e =
    let whole = h.slots n b is in
    let e' : first_from i b.slots ≡ Some j = sym (ap (λ (o : Option SlabUse). option_and_then (λ (b : SlabUse). first_from i b.slots) o) is) ∙ e in
    let f = is_first b.slots i j (omega (arith, lt, whole)) e' in
    let free : (k : ℕ) → k < p.slots → is_free p s n k ≡ is_available (get_or b.slots k Never) = λ k less. free_is n k h is on less (slice_get-get_or b.slots k Never (omega (arith, less, whole))) in
    let within : j < p.slots = omega (arith, f.within, whole) in
    finds_first p s n i j lt (record {
      slot = within;
      free = free j within ∙ f.available;
      first = λ k less before. free k less ∙ f.first k (omega (arith, less, whole)) before;
    })
