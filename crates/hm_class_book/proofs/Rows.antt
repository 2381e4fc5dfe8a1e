-- Slots that begin at equal distances, and which of them are taken.
use Rattle.std.proofs.Common.{◌≡◌, ℕ, zero, suc, ◌+◌, ◌-◌, ◌*◌, ◌/◌, ◌%◌, ◌<◌, ◌≤◌, ◌==◌, Bool, true, false, cond, not, ◌||◌, ◌&&◌, List, [], ◌∷◌, take, length, get_or, replicate, find, Option, Some, sym, ◌∙◌, ap, refl, arith, true≢false, ◌++◌}
use Rattle.std.specs.Prelude.{is_some, option_map}
use Rattle.std.specs.List.{list_any, list_all, range_with_len}
use Rattle.std.proofs.lemmas.List.{length-take}
use Rattle.std.proofs.Math.Nat.{mul-mod_left, mul-div_left}
use Rattle.hm_model.specs.Maps.{among, at, has, keys}
use Rattle.hm_sizes.specs.declared.shape.Shape.{Shape}
use Rattle.hm_sizes.specs.Shapes.{IsShape, place}
use Rattle.hm_class_rules.specs.State.{State, is_open, is_taken, is_free, has_free, is_empty}
use Rattle.std.proofs.lemmas.Option.{same_Some}
use Rattle.hm_model.proofs.Lists.{eq_same, same_eq}
use Rattle.hm_class_rules.specs.Drawn.{first_free}
use Rattle.hm_class_rules.proofs.FirstFree.{finds_some}
use Rattle.hm_class_book.proofs.Lookups.{find_alike, find_alike_range, same_default}
use Rattle.hm_class_book.specs.declared.book.OpenSlab.{OpenSlab}
use Rattle.hm_class_book.specs.Book.{slab_in, slabs_in}

-- the row of an address is a quotient
pub row_is : (addr base slot i : ℕ) → 1 ≤ slot → addr ≡ base + i * slot → (addr - base) / slot ≡ i
row_is addr base slot i some e =
    let d : addr - base ≡ i * slot = omega (arith, e) in
    ap (λ (n : ℕ). n / slot) d ∙ mul-div_left i (omega (arith, some))

pub row_whole : (addr base slot i : ℕ) → addr ≡ base + i * slot → (addr - base) % slot ≡ 0
row_whole addr base slot i e =
    let d : addr - base ≡ i * slot = omega (arith, e) in
    ap (λ (n : ℕ). n % slot) d ∙ mul-mod_left i slot

-- ---- maps
pub has_keys : {X : Type 0} (a : ℕ) (es : List (ℕ × X)) → has a es ≡ among a (keys es)
has_keys a [] = refl
has_keys a (e ∷ es) = elim (e.0 == a) as (λ b. is_some (cond b (Some e.1) (at a es)) ≡ (b || among a (keys es))) [ true ↦ refl | false ↦ has_keys a es ]

pub has_slabs : (n : ℕ) (opens : List (ℕ × OpenSlab)) → has n (slabs_in opens) ≡ list_any (λ e. e.0 == n) opens
has_slabs n [] = refl
has_slabs n (e ∷ es) = elim (e.0 == n) as (λ b. is_some (cond b (Some (slab_in e.1)) (at n (slabs_in es))) ≡ (b || list_any (λ e. e.0 == n) es)) [ true ↦ refl | false ↦ has_slabs n es ]

-- ---- marks
get_or-take : (n : ℕ) (xs : List Bool) (i : ℕ) (d : Bool) → i < n → get_or (take n xs) i d ≡ get_or xs i d
get_or-take zero xs i d lt = absurd (omega arith)
get_or-take (suc n) [] i d lt = refl
get_or-take (suc n) (x ∷ xs) zero d lt = refl
get_or-take (suc n) (x ∷ xs) (suc i) d lt = get_or-take n xs i d (omega (arith, lt))

none_marked : (count i : ℕ) → get_or (replicate count false) i false ≡ false
none_marked zero i = refl
none_marked (suc n) zero = refl
none_marked (suc n) (suc i) = none_marked n i

pub marked_is : (count i : ℕ) (x y z live quarantined condemned : Bool) → x ≡ (get_or (replicate count false) i false || live) → y ≡ (x || quarantined) → z ≡ (y || condemned)
    → z ≡ (live || (quarantined || condemned))
marked_is count i x y z live quarantined condemned a b c =
    let first : x ≡ live = a ∙ ap (λ (w : Bool). w || live) (none_marked count i) in
    c ∙ ap (λ (w : Bool). w || condemned) (b ∙ ap (λ (w : Bool). w || quarantined) first) ∙ joined live quarantined condemned
  where
    joined : (p q r : Bool) → ((p || q) || r) ≡ (p || (q || r))
    joined true q r = refl
    joined false q r = refl

-- ---- the slots of an open slab, by their marks
any_marks : (f : ℕ → Bool) (k : ℕ) (marks : List Bool) → ((i : ℕ) → i < length marks → f (k + i) ≡ not (get_or marks i false)) → list_any f (range_with_len k (length marks)) ≡ list_any (λ b. not b) marks
any_marks f k [] h = refl
any_marks f k (m ∷ ms) h =
    ap (λ (b : Bool). b || list_any f (range_with_len (k + 1) (length ms))) (ap f (omega arith) ∙ h 0 (omega arith))
    ∙ ap (λ (b : Bool). not m || b) (any_marks f (k + 1) ms (λ i lt. ap f (omega arith) ∙ h (suc i) (omega (arith, lt))))

all_marks : (f : ℕ → Bool) (k : ℕ) (marks : List Bool) → ((i : ℕ) → i < length marks → f (k + i) ≡ not (get_or marks i false)) → list_all f (range_with_len k (length marks)) ≡ list_all (λ b. not b) marks
all_marks f k [] h = refl
all_marks f k (m ∷ ms) h =
    ap (λ (b : Bool). b && list_all f (range_with_len (k + 1) (length ms))) (ap f (omega arith) ∙ h 0 (omega arith))
    ∙ ap (λ (b : Bool). not m && b) (all_marks f (k + 1) ms (λ i lt. ap f (omega arith) ∙ h (suc i) (omega (arith, lt))))

module _ (p : Shape) (s : State) (n : ℕ) where
  module _ (marks : List Bool) (on : is_open s n ≡ true) (room : p.slots ≤ length marks)
      (says : (i : ℕ) → i < p.slots → get_or marks i false ≡ is_taken s (place p n i)) where
    front_length : length (take p.slots marks) ≡ p.slots
    front_length = omega (arith, length-take p.slots marks, room)

    each_free : (i : ℕ) → i < length (take p.slots marks) → is_free p s n (0 + i) ≡ not (get_or (take p.slots marks) i false)
    each_free i lt =
        let below : i < p.slots = omega (arith, lt, front_length) in
        ap (λ (b : Bool). b && not (is_taken s (place p n (0 + i)))) on
        ∙ ap (λ (k : ℕ). not (is_taken s (place p n k))) (omega arith)
        ∙ ap (λ (b : Bool). not b) (sym (says i below) ∙ sym (get_or-take p.slots marks i false below))

    pub has_free_is : list_any (λ b. not b) (take p.slots marks) ≡ has_free p s n
    has_free_is =
        sym (any_marks (is_free p s n) 0 (take p.slots marks) each_free)
        ∙ ap (λ (k : ℕ). list_any (is_free p s n) (range_with_len 0 k)) front_length

    pub is_empty_is : list_all (λ b. not b) (take p.slots marks) ≡ is_empty p s n
    is_empty_is =
        sym (all_marks (is_free p s n) 0 (take p.slots marks) each_free)
        ∙ ap (λ (k : ℕ). list_all (is_free p s n) (range_with_len 0 k)) front_length

  shut_any : (xs : List ℕ) → is_open s n ≡ false → false ≡ list_any (is_free p s n) xs
  shut_any [] off = refl
  shut_any (x ∷ xs) off = shut_any xs off ∙ sym (ap (λ (b : Bool). (b && not (is_taken s (place p n x))) || list_any (is_free p s n) xs) off)

  pub shut_free : is_open s n ≡ false → false ≡ has_free p s n
  shut_free off = shut_any (range_with_len 0 p.slots) off

-- ---- the first available place, by the marks
module _ (p : Shape) (s : State) (n from : ℕ) (start : from < p.slots) where
  pub first_is : (marks : List Bool) (r : Option ℕ) → is_open s n ≡ true → p.slots ≤ length marks → ((i : ℕ) → i < p.slots → get_or marks i false ≡ is_taken s (place p n i))
      → r ≡ find (λ i. not (get_or marks i true)) (range_with_len from (p.slots - from) ++ range_with_len 0 from) → first_free p s n from ≡ option_map (place p n) r
  first_is marks r on room says is =
      ap (λ (o : Option ℕ). option_map (place p n) o)
      (find_alike (is_free p s n) (λ i. not (get_or marks i true)) from (p.slots - from) (range_with_len 0 from) (range_with_len 0 from)
      (λ k low high. each k (omega (arith, high, start, low)))
      (find_alike_range (is_free p s n) (λ i. not (get_or marks i true)) 0 from (λ k low high. each k (omega (arith, high, start))))
      ∙ sym is)
    where
      each : (k : ℕ) → k < p.slots → is_free p s n k ≡ not (get_or marks k true)
      each k lt =
          ap (λ (b : Bool). b && not (is_taken s (place p n k))) on
          ∙ ap (λ (b : Bool). not b) (sym (says k lt) ∙ same_default marks k false true (omega (arith, lt, room)))

  pub first_shut : (a : ℕ) → is_open s n ≡ false → first_free p s n from ≡ Some a → ⊥
  first_shut a off e = true≢false (sym (ap (λ (o : Option ℕ). is_some o) e) ∙ finds_some p s n from start ∙ sym (shut_free p s n off))

-- the found slot is that of the address
pub is_first_by : (p : Shape) (s : State) (n from a j : ℕ) (r : Bool) → first_free p s n from ≡ Some (place p n j) → r ≡ (a == place p n j)
    → (r ≡ true → first_free p s n from ≡ Some a) × (first_free p s n from ≡ Some a → r ≡ true)
is_first_by p s n from a j r is same = (
  λ e. is ∙ ap (λ (x : ℕ). Some x) (sym (eq_same a (place p n j) (sym same ∙ e))),
  λ e. same ∙ same_eq a (place p n j) (same_Some a (place p n j) (sym e ∙ is)),
)
