-- What a search through the map of all that are not available finds.
use Rattle.std.proofs.Common.{◌≡◌, ℕ, suc, ◌+◌, ◌-◌, ◌<◌, ◌≤◌, Bool, true, false, List, [], ◌∷◌, length, get_or, take, drop, inl, inr, refl, sym, ap, ◌∙◌, arith, length-drop}
use Rattle.std.proofs.lemmas.Bool.{lt-ltb, le-ltb, cond-true, cond-false, not-false, not-true, both_ways, cases_lt, cases_Bool, or_from, and_from}
use Rattle.std.proofs.lemmas.List.{get_or-take, get_or-drop, get_or_past, length-take-le}
use Rattle.std.proofs.lemmas.List.Folds.{list_any_at, list_all_at}
use Rattle.std.proofs.lemmas.List.Sums.{position_or_len_is}
use Rattle.std.specs.Prelude.{not, Option, Some, None, option_map, slice_get}
use Rattle.std.specs.List.{position, position_or_len, list_any, list_all}
use Rattle.std.proofs.lemmas.Option.{slice_get-get_or}
use Rattle.hm_slab_meta.specs.declared.bit_map.BitMap.{BitMap}
use Rattle.hm_slab_meta.specs.Maps.{IsClear, AreAllIn, IsFirstOut}
use Rattle.hm_slab_meta.specs.Marks.{Marks}
use Rattle.hm_slab_meta.specs.Uses.{SlotUse, Never, is_available, AreTaken, IsFirstFree, first_from, or_else}

-- ---- the bits, as slots
pub first_free : (taken : BitMap) (slots : List SlotUse) (from slot : ℕ) → Marks taken slots → slot < length slots
    → IsFirstOut taken from slot → IsFirstFree slots from slot
first_free taken slots from slot marks below first = record {
  at_least = first.at_least;
  below = below;
  free = not-false (is_available (get_or slots slot Never)) (sym (marks slot first.below) ∙ first.clear);
  before = λ i le lt. not-true (is_available (get_or slots i Never)) (sym (marks i (omega (arith, lt, first.below))) ∙ first.before i le lt);
}

pub all_taken : (taken : BitMap) (slots : List SlotUse) (from to : ℕ) → Marks taken slots → to ≤ 256 → AreAllIn taken from to → AreTaken slots from to
all_taken taken slots from to marks few all i le lt =
    not-true (is_available (get_or slots i Never)) (sym (marks i (omega (arith, lt, few))) ∙ all i le lt)

-- ---- the first place of a list
found_at : (p : SlotUse → Bool) (xs : List SlotUse) (k : ℕ) → k < length xs → ((j : ℕ) → j < k → p (get_or xs j Never) ≡ false) → p (get_or xs k Never) ≡ true
    → position p xs ≡ Some k
found_at p xs k below before at =
    let is : position_or_len p xs ≡ k = position_or_len_is p xs k Never (omega arith) before (λ _. at) in
    cond-true _ _ _ (lt-ltb (position_or_len p xs) (length xs) (omega (arith, is, below))) ∙ ap (λ (j : ℕ). Some j) is

found_nowhere : (p : SlotUse → Bool) (xs : List SlotUse) → ((j : ℕ) → j < length xs → p (get_or xs j Never) ≡ false) → position p xs ≡ None
found_nowhere p xs none =
    let is : position_or_len p xs ≡ length xs = position_or_len_is p xs (length xs) Never (omega arith) none (λ lt. absurd (omega arith)) in
    cond-false _ _ _ (le-ltb (position_or_len p xs) (length xs) (omega (arith, is)))

pub found_past : (xs : List SlotUse) (start slot : ℕ) → IsFirstFree xs start slot → Some slot ≡ first_from start xs
found_past xs start slot first =
    let is : start + (slot - start) ≡ slot = omega (arith, first.at_least) in
    let e : position is_available (drop start xs) ≡ Some (slot - start) =
    found_at is_available (drop start xs) (slot - start) (omega (arith, length-drop start xs, first.below, first.at_least))
    (λ j lt. ap is_available (get_or-drop start xs j Never) ∙ first.before (start + j) (omega arith) (omega (arith, lt, first.at_least)))
    (ap is_available (get_or-drop start xs (slot - start) Never ∙ ap (λ i. get_or xs i Never) is) ∙ first.free) in
    sym (ap (λ o. or_else start o (position is_available (take start xs))) e ∙ ap (λ (i : ℕ). Some i) is)

none_past : (xs : List SlotUse) (start : ℕ) → AreTaken xs start (length xs) → position is_available (drop start xs) ≡ None
none_past xs start none =
    found_nowhere is_available (drop start xs)
    (λ j lt. ap is_available (get_or-drop start xs j Never) ∙ none (start + j) (omega arith) (omega (arith, lt, length-drop start xs)))

-- a first one of all stands before a slot from which on there is none
before_start : (xs : List SlotUse) (start slot : ℕ) → AreTaken xs start (length xs) → IsFirstFree xs 0 slot → slot < start
before_start xs start slot none first =
    elim (cases_lt slot start) as (λ _. slot < start) [
      | inl lt ↦ lt
      | inr ge ↦ absurd (both_ways (is_available (get_or xs slot Never)) (none slot ge first.below) first.free)
    ]

pub found_before : (xs : List SlotUse) (start slot : ℕ) → start < length xs → AreTaken xs start (length xs) → IsFirstFree xs 0 slot → Some slot ≡ first_from start xs
found_before xs start slot within none first =
    let lt : slot < start = before_start xs start slot none first in
    let long : length (take start xs) ≡ start = length-take-le start xs (omega arith) in
    let e : position is_available (take start xs) ≡ Some slot =
    found_at is_available (take start xs) slot (omega (arith, long, lt))
    (λ j below. ap is_available (get_or-take start xs j Never (omega (arith, below, lt))) ∙ first.before j (omega arith) below)
    (ap is_available (get_or-take start xs slot Never lt) ∙ first.free) in
    sym (ap (λ o. or_else start o (position is_available (take start xs))) (none_past xs start none) ∙ e)

pub found_none : (xs : List SlotUse) (start : ℕ) → start < length xs → AreTaken xs 0 (length xs) → ◌≡◌ {A = Option ℕ} None (first_from start xs)
found_none xs start within none =
    let long : length (take start xs) ≡ start = length-take-le start xs (omega arith) in
    let e : position is_available (take start xs) ≡ None =
    found_nowhere is_available (take start xs)
    (λ j lt. ap is_available (get_or-take start xs j Never (omega (arith, lt, long))) ∙ none j (omega arith) (omega (arith, lt, long, within))) in
    sym (ap (λ o. or_else start o (position is_available (take start xs))) (none_past xs start (λ i ge below. none i (omega arith) below)) ∙ e)

pub is_there : (xs : List SlotUse) (from slot : ℕ) → IsFirstFree xs from slot → option_map is_available (slice_get xs slot) ≡ Some true
is_there xs from slot first =
    ap (option_map is_available) (slice_get-get_or xs slot Never first.below) ∙ ap (λ (b : Bool). Some b) first.free

-- ---- whether any is available, and whether all are
pub some_free : (xs : List SlotUse) (from slot : ℕ) → IsFirstFree xs from slot → list_any is_available xs ≡ true
some_free xs from slot first = list_any_at is_available xs slot Never first.below first.free

pub none_free : (xs : List SlotUse) → AreTaken xs 0 (length xs) → list_any is_available xs ≡ false
none_free [] none = refl
none_free (x ∷ xs) none =
    or_from (is_available x) (list_any is_available xs) (none 0 (omega arith) (omega arith))
    (none_free xs (λ i ge lt. none (suc i) (omega arith) (omega (arith, lt))))

all_free : (xs : List SlotUse) → ((i : ℕ) → i < length xs → is_available (get_or xs i Never) ≡ true) → list_all is_available xs ≡ true
all_free [] all = refl
all_free (x ∷ xs) all =
    and_from (is_available x) (list_all is_available xs) (all 0 (omega arith)) (all_free xs (λ i lt. all (suc i) (omega (arith, lt))))

each_free : (xs : List SlotUse) (i : ℕ) → list_all is_available xs ≡ true → i < length xs → is_available (get_or xs i Never) ≡ true
each_free xs i all lt =
    elim (cases_Bool (is_available (get_or xs i Never))) as (λ _. is_available (get_or xs i Never) ≡ true) [
      | inl e ↦ e
      | inr e ↦ absurd (both_ways (list_all is_available xs) (list_all_at is_available xs i Never lt e) all)
    ]

is_free_at : (xs : List SlotUse) (i : ℕ) → list_all is_available xs ≡ true → is_available (get_or xs i Never) ≡ true
is_free_at xs i all =
    elim (cases_lt i (length xs)) as (λ _. is_available (get_or xs i Never) ≡ true) [
      | inl lt ↦ each_free xs i all lt
      | inr ge ↦ ap is_available (get_or_past xs i Never ge)
    ]

pub is_all : (taken : BitMap) (xs : List SlotUse) (r : Bool) → length xs ≤ 256 → Marks taken xs → (r ≡ true → IsClear taken) → (IsClear taken → r ≡ true)
    → r ≡ list_all is_available xs
is_all taken xs true few marks there back =
    sym (all_free xs (λ i lt. not-false (is_available (get_or xs i Never)) (sym (marks i (omega (arith, lt, few))) ∙ there refl i (omega (arith, lt, few)))))
is_all taken xs false few marks there back =
    elim (cases_Bool (list_all is_available xs)) as (λ _. false ≡ list_all is_available xs) [
      | inl e ↦ absurd (both_ways false refl (back (λ i below. marks i below ∙ ap not (is_free_at xs i e))))
      | inr e ↦ sym e
    ]
