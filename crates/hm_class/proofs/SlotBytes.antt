-- The first byte that is not zero, and canaries as bytes.
use Rattle.std.proofs.Common.{◌≡◌, ◌≢◌, ℕ, zero, suc, ◌+◌, ◌<◌, ◌==◌, Bool, true, false, cond, not, List, [], ◌∷◌, ◌++◌, length, replicate, get_or, Option, Some, None, sym, ◌∙◌, ap, refl, arith, true≢false}
use Rattle.std.specs.List.{position}
use Rattle.std.specs.Int.{to_le_bytes, from_le_bytes}
use mir.Syntax.{w64}
use Rattle.std.proofs.lemmas.Bool.Decides.{nat_tests}
use Rattle.std.proofs.lemmas.List.Quantifiers.{position-Some}
use Rattle.std.proofs.lemmas.Nat.{le_bytes_8}
use Rattle.std.proofs.lemmas.Option.{none-some, slice_get-get_or}
use Rattle.hm_class_rules.specs.Bytes.{first_nonzero, one_later}
use Rattle.hm_model.proofs.Lists.{eq_same}
use Rattle.hm_class.proofs.Found.{position_none}
use Rattle.hm_class.proofs.Shown.{by_false}

zero_is : (b : ℕ) → not (b == 0) ≡ false → (b == 0) ≡ true
zero_is b e = grind (arith, nat_tests)

some_is : (b : ℕ) → not (b == 0) ≡ true → (b == 0) ≡ false
some_is b e = grind (arith, nat_tests)

-- where zeros come before it
pub first_at : (bs : List ℕ) (i : ℕ) → i < length bs → not (get_or bs i 0 == 0) ≡ true → ((k : ℕ) → k < i → not (get_or bs k 0 == 0) ≡ false) → first_nonzero bs ≡ Some (i, get_or bs i 0)
first_at [] i lt here before = absurd (omega arith)
first_at (b ∷ bs) zero lt here before = ap (λ (t : Bool). cond t (one_later (first_nonzero bs)) (Some (0, b))) (some_is b here)
first_at (b ∷ bs) (suc i) lt here before =
    ap (λ (t : Bool). cond t (one_later (first_nonzero bs)) (Some (0, b))) (zero_is b (before 0 (omega arith)))
    ∙ ap (λ (o : Option (ℕ × ℕ)). one_later o) (first_at bs i (omega arith) here (λ k less. before (suc k) (omega arith)))
    ∙ ap (λ (j : ℕ). Some (j, get_or bs i 0)) (omega arith)

-- where all are zero
pub first_none : (bs : List ℕ) → ((k : ℕ) → k < length bs → not (get_or bs k 0 == 0) ≡ false) → first_nonzero bs ≡ None
first_none [] all = refl
first_none (b ∷ bs) all =
    ap (λ (t : Bool). cond t (one_later (first_nonzero bs)) (Some (0, b))) (zero_is b (all 0 (omega arith)))
    ∙ ap (λ (o : Option (ℕ × ℕ)). one_later o) (first_none bs (λ k less. all (suc k) (omega arith)))

pub first_of_none : (bs : List ℕ) → position (λ b. not (b == 0)) bs ≡ None → first_nonzero bs ≡ None
first_of_none bs e =
    first_none bs (λ k lt. by_false _ (λ yes. position_none (λ b. not (b == 0)) bs e k (get_or bs k 0) (slice_get-get_or bs k 0 lt) yes))

pub first_of_some : (bs : List ℕ) (i : ℕ) → position (λ b. not (b == 0)) bs ≡ Some i → first_nonzero bs ≡ Some (i, get_or bs i 0)
first_of_some bs i e = let r = position-Some (λ (b : ℕ). not (b == 0)) bs i 0 e in first_at bs i r.0 r.1 r.2

-- what is found stands among the bytes, and is not zero
pub some_nonzero : (bs : List ℕ) (i n : ℕ) → position (λ b. not (b == 0)) bs ≡ Some i → length bs ≡ n → (i < n) × (get_or bs i 0 ≢ 0)
some_nonzero bs i n e len =
    let r = position-Some (λ (b : ℕ). not (b == 0)) bs i 0 e in
    (omega (arith, r.0, len), λ zero_here. true≢false (sym r.1 ∙ ap (λ (b : ℕ). not (b == 0)) zero_here))

-- zeros
pub first_of_zeros : (n : ℕ) → first_nonzero (replicate n 0) ≡ None
first_of_zeros zero = refl
first_of_zeros (suc n) = ap (λ (o : Option (ℕ × ℕ)). one_later o) (first_of_zeros n)

-- ---- bytes after others
none_before : (o : Option (ℕ × ℕ)) → one_later o ≡ None → o ≡ None
none_before None e = refl
none_before (Some r) e = absurd (none-some (r.0 + 1, r.1) (sym e))

-- all are zero
pub none_then_none : (xs bs : List ℕ) → first_nonzero xs ≡ None → first_nonzero bs ≡ None → first_nonzero (xs ++ bs) ≡ None
none_then_none [] bs e f = f
none_then_none (x ∷ xs) bs e f =
    elim (x == 0) as (λ t. cond t (one_later (first_nonzero xs)) (Some (0, x)) ≡ None → cond t (one_later (first_nonzero (xs ++ bs))) (Some (0, x)) ≡ None) [
      | true ↦ λ h. ap (λ (o : Option (ℕ × ℕ)). one_later o) (none_then_none xs bs (none_before (first_nonzero xs) h) f)
      | false ↦ λ h. h
    ] e

-- those before are zero
pub none_then_some : (xs bs : List ℕ) (i b : ℕ) → first_nonzero xs ≡ None → first_nonzero bs ≡ Some (i, b) → first_nonzero (xs ++ bs) ≡ Some (length xs + i, b)
none_then_some [] bs i b e f = f ∙ ap (λ (j : ℕ). Some (j, b)) (omega arith)
none_then_some (x ∷ xs) bs i b e f =
    elim (x == 0) as (λ t. cond t (one_later (first_nonzero xs)) (Some (0, x)) ≡ None → cond t (one_later (first_nonzero (xs ++ bs))) (Some (0, x)) ≡ Some (length (x ∷ xs) + i, b)) [
      | true ↦ λ h. ap (λ (o : Option (ℕ × ℕ)). one_later o) (none_then_some xs bs i b (none_before (first_nonzero xs) h) f) ∙ ap (λ (j : ℕ). Some (j, b)) (omega arith)
      | false ↦ λ h. absurd (none-some (0, x) (sym h))
    ] e

-- it is among those before
pub some_then : (xs bs : List ℕ) (r : ℕ × ℕ) → first_nonzero xs ≡ Some r → first_nonzero (xs ++ bs) ≡ Some r
some_then [] bs r e = absurd (none-some r e)
some_then (x ∷ xs) bs r e =
    elim (x == 0) as (λ t. cond t (one_later (first_nonzero xs)) (Some (0, x)) ≡ Some r → cond t (one_later (first_nonzero (xs ++ bs))) (Some (0, x)) ≡ Some r) [
      | true ↦ λ h. later (first_nonzero xs) (λ q is. some_then xs bs q is) refl h
      | false ↦ λ h. h
    ] e
  where
    later : (o : Option (ℕ × ℕ)) → ((q : ℕ × ℕ) → first_nonzero xs ≡ Some q → first_nonzero (xs ++ bs) ≡ Some q) → first_nonzero xs ≡ o → one_later o ≡ Some r → one_later (first_nonzero (xs ++ bs)) ≡ Some r
    later None rest is h = absurd (none-some r h)
    later (Some q) rest is h = ap (λ (o : Option (ℕ × ℕ)). one_later o) (rest q is) ∙ h

-- other bytes are another number
pub other_number : (bs : List ℕ) (canary : ℕ) → length bs ≡ 8 → ((i : ℕ) → get_or bs i 0 < 256) → bs ≢ to_le_bytes w64 canary → (from_le_bytes w64 bs == canary) ≡ false
other_number bs canary len bytes ne = by_false _ (λ yes. ne (sym (le_bytes_8 bs canary len bytes (sym (eq_same _ _ yes)))))

pub not_number : (bs : List ℕ) (canary found : ℕ) → length bs ≡ 8 → ((i : ℕ) → get_or bs i 0 < 256) → bs ≢ to_le_bytes w64 canary → found ≡ from_le_bytes w64 bs → canary ≢ found
not_number bs canary found len bytes ne is same = ne (sym (le_bytes_8 bs canary len bytes (same ∙ is)))
