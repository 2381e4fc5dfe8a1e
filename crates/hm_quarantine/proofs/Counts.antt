-- How many slots of a kind stand in the array, in the ring, and in a list.
use Rattle.std.proofs.Common.{◌≡◌, ℕ, zero, suc, ◌+◌, ◌<◌, ◌≤◌, ◌==◌, Bool, true, false, cond, ◌||◌, List, [], ◌∷◌, ◌++◌, length, replicate, get_or, set, Option, Some, None, ap, refl, arith, true≢false}
use Rattle.std.specs.Prelude.{not}
use Rattle.std.proofs.lemmas.Bool.{eqb-true, eq-eqb}
use Rattle.hm_quarantine.specs.Quarantine.{IsArrayIndex, goes_on, ring_with, goes_out}
use Rattle.hm_base.specs.Members.{among, without, without_option}
use Rattle.hm_quarantine.proofs.Rings.{Takes, Room, Full, HasRoom, IsFull, takes}

abbrev pub one : (ℕ → Bool) → ℕ → ℕ
one t x = cond (t x) 1 0

abbrev pub one_of : (ℕ → Bool) → Option ℕ → ℕ
one_of t None = 0
one_of t (Some x) = one t x

abbrev pub count : (ℕ → Bool) → List ℕ → ℕ
count t [] = 0
count t (x ∷ xs) = one t x + count t xs

abbrev pub count_in : (ℕ → Bool) → List (Option ℕ) → ℕ
count_in t [] = 0
count_in t (o ∷ xs) = one_of t o + count_in t xs

-- how often a slot stands in a list
abbrev pub times : ℕ → List ℕ → ℕ
times a xs = count (λ x. x == a) xs

count_append : (t : ℕ → Bool) (xs : List ℕ) (x : ℕ) → count t (xs ++ x ∷ []) ≡ count t xs + one t x
count_append t [] x = omega arith
count_append t (y ∷ xs) x = omega (arith, count_append t xs x)

count_set : (t : ℕ → Bool) (array : List (Option ℕ)) (p x : ℕ) → p < length array → count_in t (set array p (Some x)) + one_of t (get_or array p None) ≡ count_in t array + one t x
count_set t [] p x lt = absurd (omega arith)
count_set t (o ∷ array) zero x lt = omega arith
count_set t (o ∷ array) (suc p) x lt = omega (arith, count_set t array p x (omega arith))

-- the array takes a slot and lets one go on
pub count_array : (t : ℕ → Bool) (array : List (Option ℕ)) (x p : ℕ) → IsArrayIndex (length array) p → count_in t (set array p (Some x)) + one_of t (goes_on array x p) ≡ count_in t array + one t x
count_array t [] x p index = refl
count_array t (o ∷ array) x p index = count_set t (o ∷ array) p x index

pub count_empty : (t : ℕ → Bool) (n : ℕ) → count_in t (replicate n None) ≡ 0
count_empty t zero = refl
count_empty t (suc n) = omega (arith, count_empty t n)

-- the ring takes what goes on and gives out
pub count_ring : (t : ℕ → Bool) (size : ℕ) (ring : List ℕ) (o : Option ℕ) → length ring ≤ size → count t (ring_with size ring o) + one_of t (goes_out size ring o) ≡ count t ring + one_of t o
count_ring t size ring None le = omega arith
count_ring t size ring (Some x) le = goes (takes size x ring le)
  where
    room : HasRoom size x ring → count t (ring_with size ring (Some x)) + one_of t (goes_out size ring (Some x)) ≡ count t ring + one t x
    room has = rw (has.ring_is, has.out_is) (omega (arith, count_append t ring x))

    full : (y : ℕ) (rest : List ℕ) → ring ++ x ∷ [] ≡ y ∷ rest → IsFull size x ring y rest → count t (ring_with size ring (Some x)) + one_of t (goes_out size ring (Some x)) ≡ count t ring + one t x
    full y rest grown is = rw (is.ring_is, is.out_is) (omega (arith, count_append t ring x, ap (λ (xs : List ℕ). count t xs) grown))

    goes : Takes size x ring → count t (ring_with size ring (Some x)) + one_of t (goes_out size ring (Some x)) ≡ count t ring + one t x
    goes (Room lt has) = room has
    goes (Full y rest grown long is) = full y rest grown is

-- a list without a slot that does not stand in it
count_same : (t : ℕ → Bool) (b : ℕ) (xs : List ℕ) → times b xs ≡ 0 → count t (without b xs) ≡ count t xs
count_same t b [] e = refl
count_same t b (x ∷ xs) e =
    elim (x == b) as (λ c. cond c 1 0 + times b xs ≡ 0 → count t (cond (not c) (x ∷ without b xs) (without b xs)) ≡ one t x + count t xs) [
      | true ↦ λ h. absurd (omega (arith, h))
      | false ↦ λ h. omega (arith, count_same t b xs (omega (arith, h)))
    ] e

-- a list without a slot that stands in it once
count_removed : (t : ℕ → Bool) (b : ℕ) (xs : List ℕ) → times b xs ≡ 1 → count t (without b xs) + one t b ≡ count t xs
count_removed t b [] e = absurd (omega (arith, e))
count_removed t b (x ∷ xs) e =
    elim (x == b) as (λ c. (x == b) ≡ c → cond c 1 0 + times b xs ≡ 1 → count t (cond (not c) (x ∷ without b xs) (without b xs)) + one t b ≡ one t x + count t xs) [
      | true ↦ λ is h. omega (arith, ap (λ (n : ℕ). one t n) (eqb-true x b is), count_same t b xs (omega (arith, h)))
      | false ↦ λ is h. omega (arith, count_removed t b xs (omega (arith, h)))
    ] refl e

pub count_without : (t : ℕ → Bool) (o : Option ℕ) (xs : List ℕ) → ((b : ℕ) → o ≡ Some b → times b xs ≡ 1) → count t (without_option o xs) + one_of t o ≡ count t xs
count_without t None xs h = omega arith
count_without t (Some b) xs h = count_removed t b xs (h b refl)

-- a slot stands in a list where it is counted there
pub among_one : (a : ℕ) (xs : List ℕ) → 1 ≤ times a xs → among a xs ≡ true
among_one a [] le = absurd (omega arith)
among_one a (x ∷ xs) le =
    elim (x == a) as (λ c. 1 ≤ cond c 1 0 + times a xs → (c || among a xs) ≡ true) [
      | true ↦ λ h. refl
      | false ↦ λ h. among_one a xs (omega (arith, h))
    ] le

pub among_none : (a : ℕ) (xs : List ℕ) → times a xs ≡ 0 → among a xs ≡ false
among_none a [] e = refl
among_none a (x ∷ xs) e =
    elim (x == a) as (λ c. cond c 1 0 + times a xs ≡ 0 → (c || among a xs) ≡ false) [
      | true ↦ λ h. absurd (omega (arith, h))
      | false ↦ λ h. among_none a xs (omega (arith, h))
    ] e

pub none_among : (a : ℕ) (xs : List ℕ) → among a xs ≡ false → times a xs ≡ 0
none_among a [] e = refl
none_among a (x ∷ xs) e =
    elim (x == a) as (λ c. (c || among a xs) ≡ false → cond c 1 0 + times a xs ≡ 0) [
      | true ↦ λ h. absurd (true≢false h)
      | false ↦ λ h. omega (arith, none_among a xs h)
    ] e

-- one more slot that is new
pub once_more : (a f : ℕ) (xs : List ℕ) → among f xs ≡ false → times a xs ≤ 1 → times a (f ∷ xs) ≤ 1
once_more a f xs new le =
    elim (f == a) as (λ c. (f == a) ≡ c → cond c 1 0 + times a xs ≤ 1) [
      | true ↦ λ is. omega (arith, ap (λ (n : ℕ). times n xs) (eqb-true f a is), none_among f xs new)
      | false ↦ λ is. omega (arith, le)
    ] refl

pub self_is : (a : ℕ) → one (λ x. x == a) a ≡ 1
self_is a = ap (λ b. cond b 1 0) (eq-eqb a a refl)

-- a slot of the array is counted there
pub count_at : (t : ℕ → Bool) (array : List (Option ℕ)) (p x : ℕ) → get_or array p None ≡ Some x → one t x ≤ count_in t array
count_at t [] p x e = absurd (cc)
count_at t (o ∷ array) zero x e = omega (arith, ap (λ (q : Option ℕ). one_of t q) e)
count_at t (o ∷ array) (suc p) x e = omega (arith, count_at t array p x e)

pub count_all : (xs : List ℕ) → count (λ x. true) xs ≡ length xs
count_all [] = refl
count_all (x ∷ xs) = omega (arith, count_all xs)

pub count_most : (array : List (Option ℕ)) → count_in (λ x. true) array ≤ length array
count_most [] = omega arith
count_most (None ∷ array) = omega (arith, count_most array)
count_most (Some x ∷ array) = omega (arith, count_most array)
