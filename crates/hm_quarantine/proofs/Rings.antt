-- What a ring does with a slot that enters it.
use Rattle.std.proofs.Common.{◌≡◌, ℕ, ◌+◌, ◌-◌, ◌<◌, ◌≤◌, nat_lt, true, false, cond, List, [], ◌∷◌, ◌++◌, length, drop, slice_get, Option, Some, None, ◌∙◌, ap, refl, arith, length-append}
use Rattle.std.proofs.lemmas.Bool.{ltb-true, ltb-false, lt-ltb, le-ltb}
use Rattle.circular_buffer.specs.Buffer.{keep_last}
use Rattle.hm_quarantine.specs.Quarantine.{ring_with, goes_out}

keep_all : (n : ℕ) (xs : List ℕ) → length xs ≤ n → keep_last n xs ≡ xs
keep_all n xs le = ap (λ (k : ℕ). drop k xs) (none (length xs) le)
  where
    none : (a : ℕ) → a ≤ n → a - n ≡ 0
    none a h = omega arith

keep_rest : (n y : ℕ) (xs : List ℕ) → length xs ≡ n → keep_last n (y ∷ xs) ≡ xs
keep_rest n y xs is = ap (λ (k : ℕ). drop k (y ∷ xs)) (one (length (y ∷ xs)) (omega (arith, is)))
  where
    one : (a : ℕ) → a ≡ n + 1 → a - n ≡ 1
    one a h = omega arith

-- a ring with room keeps all, and gives nothing out
pub record HasRoom (size x : ℕ) (ring : List ℕ) : Type 0 where
  pub ring_is : ring_with size ring (Some x) ≡ ring ++ x ∷ []
  pub out_is : goes_out size ring (Some x) ≡ None

pub has_room : (size x : ℕ) (ring : List ℕ) → length ring < size → HasRoom size x ring
has_room size x ring lt = record {
  ring_is = keep_all size (ring ++ x ∷ []) (omega (arith, length-append ring (x ∷ [])));
  out_is = ap (λ b. cond {A = Option ℕ} b None (slice_get (ring ++ x ∷ []) 0)) (lt-ltb (length ring) size lt);
}

-- a full ring gives out y, and keeps the rest
pub record IsFull (size x : ℕ) (ring : List ℕ) (y : ℕ) (rest : List ℕ) : Type 0 where
  pub ring_is : ring_with size ring (Some x) ≡ rest
  pub out_is : goes_out size ring (Some x) ≡ Some y

pub is_full : (size x y : ℕ) (ring rest : List ℕ) → ring ++ x ∷ [] ≡ y ∷ rest → length rest ≡ size → IsFull size x ring y rest
is_full size x y ring rest grown is = record {
  ring_is = ap (λ (xs : List ℕ). keep_last size xs) grown ∙ keep_rest size y rest is;
  out_is =
      ap (λ b. cond {A = Option ℕ} b None (slice_get (ring ++ x ∷ []) 0)) (le-ltb (length ring) size (omega (arith, is, length-append ring (x ∷ []), ap (λ (xs : List ℕ). length xs) grown)))
      ∙ ap (λ (xs : List ℕ). slice_get xs 0) grown;
}

-- a ring that holds no more than it may has room or is full
pub data Takes (size x : ℕ) (ring : List ℕ) : Type 0 where
  Room : length ring < size → HasRoom size x ring → Takes size x ring
  Full : (y : ℕ) (rest : List ℕ) → ring ++ x ∷ [] ≡ y ∷ rest → length rest ≡ size → IsFull size x ring y rest → Takes size x ring

full : (size x : ℕ) (ring : List ℕ) → length ring ≡ size → Takes size x ring
full size x [] is = Full x [] refl is (is_full size x x [] [] refl is)
full size x (y ∷ ring) is = Full y (ring ++ x ∷ []) refl long (is_full size x y (y ∷ ring) (ring ++ x ∷ []) refl long)
  where
    long : length (ring ++ x ∷ []) ≡ size
    long = omega (arith, is, length-append ring (x ∷ []))

pub takes : (size x : ℕ) (ring : List ℕ) → length ring ≤ size → Takes size x ring
takes size x ring le =
    elim (nat_lt (length ring) size) as (λ b. nat_lt (length ring) size ≡ b → Takes size x ring) [
      | true ↦ λ e. let lt : length ring < size = ltb-true (length ring) size e in Room lt (has_room size x ring lt)
      | false ↦ λ e. full size x ring (omega (arith, le, ltb-false (length ring) size e))
    ] refl
