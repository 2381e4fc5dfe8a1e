-- What a list of ranges has where some of them are replaced.
use Rattle.std.proofs.Common.{◌≡◌, ℕ, ◌+◌, ◌-◌, ◌^◌, ◌<◌, ◌≤◌, ◌==◌, ◌↔◌, Bool, true, false, cond, List, [], ◌∷◌, ◌++◌, append_assoc, ◌⊎◌, inl, inr, arith, subst, sym, refl}
use Rattle.std.proofs.lemmas.Bool.{cases_lt}
use Rattle.std.proofs.lemmas.Bool.Decides.{nat_tests}
use Rattle.hm_space.specs.declared.free_range.FreeRange.{FreeRange}
use Rattle.hm_space.specs.Ranges.{end_of, IsWithin, IsInSome, IsRangeFrom, AreApart, LiesIn, range_or_none, Takes, Gives}
use Rattle.hm_space.proofs.Apart.{behind, lower_apart, front_apart, rest_apart, both_apart, in_from, in_before, in_front, in_rest, in_either}

-- a range in front, unless it is empty

one_at : (low s n : ℕ) (zs : List FreeRange) → (b : Bool) → (n == 0) ≡ b → low ≤ s → s + n < 2 ^ 64 → AreApart (s + n + 1) zs → AreApart low (cond b [] (record { start = s; len = n } ∷ []) ++ zs)
one_at low s n zs true e le below h = lower_apart low (s + n + 1) zs (omega arith) h
one_at low s n zs false e le below h = (record { from = le; some = grind (arith, nat_tests); below = below }, h)

pub one_apart : (low s n : ℕ) (zs : List FreeRange) → low ≤ s → s + n < 2 ^ 64 → AreApart (s + n + 1) zs → AreApart low (range_or_none s n ++ zs)
one_apart low s n zs le below h = one_at low s n zs (n == 0) refl le below h

one_has : (s n a : ℕ) (b : Bool) → (n == 0) ≡ b → IsInSome (cond b [] (record { start = s; len = n } ∷ [])) a ↔ IsWithin s n a
one_has s n a true e = (λ i. absurd i, λ w. (let z : n ≡ 0 = grind (arith, nat_tests) in absurd (omega (arith, w.from, w.below, z))))
one_has s n a false e = (λ i. elim i as (λ _. IsWithin s n a) [ inl w ↦ w | inr none ↦ absurd none ], λ w. inl w)

pub one_is : (s n a : ℕ) → IsInSome (range_or_none s n) a ↔ IsWithin s n a
one_is s n a = one_has s n a (n == 0) refl

-- what is left of a range on both sides
abbrev pub left_of : FreeRange → ℕ → ℕ → List FreeRange
left_of r at len = range_or_none r.start (at - r.start) ++ range_or_none (at + len) (end_of r - (at + len))

left_apart : (low : ℕ) (r : FreeRange) (ys : List FreeRange) (at len : ℕ) → AreApart low (r ∷ ys) → LiesIn r at len → 1 ≤ len → AreApart low (left_of r at len ++ ys)
left_apart low r ys at len h lies some =
    subst (AreApart low) (sym (append_assoc (range_or_none r.start (at - r.start)) (range_or_none (at + len) (end_of r - (at + len))) ys))
    (one_apart low r.start (at - r.start) (range_or_none (at + len) (end_of r - (at + len)) ++ ys) h.0.from (omega (arith, lies.from, lies.to, h.0.below))
    (one_apart (r.start + (at - r.start) + 1) (at + len) (end_of r - (at + len)) ys (omega (arith, lies.from, lies.to)) (omega (arith, lies.from, lies.to, h.0.below))
    (lower_apart (at + len + (end_of r - (at + len)) + 1) (end_of r + 1) ys (omega (arith, lies.to)) h.1)))

left_is : (r : FreeRange) (at len a : ℕ) → LiesIn r at len → IsInSome (left_of r at len) a ↔ (IsWithin r.start r.len a × (IsWithin at len a → ⊥))
left_is r at len a lies =
    let low = range_or_none r.start (at - r.start) in
    let high = range_or_none (at + len) (end_of r - (at + len)) in (
      λ i. elim (in_either low high a i) as (λ _. IsWithin r.start r.len a × (IsWithin at len a → ⊥)) [
        | inl j ↦ (let w = (one_is r.start (at - r.start) a).0 j in (record { from = w.from; below = omega (arith, w.below, lies.from, lies.to) }, λ v. absurd (omega (arith, w.below, w.from, v.from, lies.from))))
        | inr j ↦ (let w = (one_is (at + len) (end_of r - (at + len)) a).0 j in (record { from = omega (arith, w.from, lies.from); below = omega (arith, w.below, lies.to, w.from) }, λ v. absurd (omega (arith, w.from, v.below))))
      ],
      λ p. elim (cases_lt a at) as (λ _. IsInSome (low ++ high) a) [
        | inl lt ↦ in_front low high a ((one_is r.start (at - r.start) a).1 (record { from = p.0.from; below = omega (arith, lt, lies.from) }))
        | inr le ↦ elim (cases_lt a (at + len)) as (λ _. IsInSome (low ++ high) a) [
          | inl lt ↦ absurd (p.1 (record { from = le; below = lt }))
          | inr past ↦ in_rest low high a ((one_is (at + len) (end_of r - (at + len)) a).1 (record { from = past; below = omega (arith, p.0.below, past) }))
        ]
      ],
    )

-- a range of which only that is kept
pub cuts : (xs : List FreeRange) (r : FreeRange) (ys : List FreeRange) (at len : ℕ) → AreApart 0 (xs ++ r ∷ ys) → LiesIn r at len → 1 ≤ len → Takes (xs ++ r ∷ ys) (xs ++ (left_of r at len ++ ys)) at len
cuts xs r ys at len h lies some =
    let front = front_apart 0 xs (r ∷ ys) h in
    let rest = rest_apart 0 xs (r ∷ ys) h in
    let left = left_of r at len in record {
      apart = both_apart 0 xs (left ++ ys) front (left_apart (behind 0 xs) r ys at len rest lies some);
      each = λ a. (
        λ i. elim (in_either xs (left ++ ys) a i) as (λ _. IsInSome (xs ++ r ∷ ys) a × (IsWithin at len a → ⊥)) [
          | inl j ↦ (in_front xs (r ∷ ys) a j, λ v. absurd (omega (arith, in_before 0 xs a front j, rest.0.from, lies.from, v.from)))
          | inr j ↦ elim (in_either left ys a j) as (λ _. IsInSome (xs ++ r ∷ ys) a × (IsWithin at len a → ⊥)) [
            | inl k ↦ (let p = (left_is r at len a lies).0 k in (in_rest xs (r ∷ ys) a (inl p.0), p.1))
            | inr k ↦ (in_rest xs (r ∷ ys) a (inr k), λ v. absurd (omega (arith, in_from (end_of r + 1) ys a rest.1 k, lies.to, v.below)))
          ]
        ],
        λ p. elim (in_either xs (r ∷ ys) a p.0) as (λ _. IsInSome (xs ++ (left ++ ys)) a) [
          | inl j ↦ in_front xs (left ++ ys) a j
          | inr j ↦ in_rest xs (left ++ ys) a (elim j as (λ _. IsInSome (left ++ ys) a) [
            | inl w ↦ in_front left ys a ((left_is r at len a lies).1 (w, p.1))
            | inr k ↦ in_rest left ys a k
          ])
        ],
      );
    }

-- some ranges replaced by one, which has their addresses and these
pub gives :
    (xs os ys : List FreeRange) (v : FreeRange) (at len : ℕ) → AreApart 0 (xs ++ (os ++ ys)) → IsRangeFrom (behind 0 xs) v → AreApart (end_of v + 1) ys
    → ((a : ℕ) → IsWithin v.start v.len a ↔ (IsInSome os a ⊎ IsWithin at len a)) → Gives (xs ++ (os ++ ys)) (xs ++ v ∷ ys) at len
gives xs os ys v at len h one rest same = record {
  apart = both_apart 0 xs (v ∷ ys) (front_apart 0 xs (os ++ ys) h) (one, rest);
  each = λ a. (
    λ i. elim (in_either xs (v ∷ ys) a i) as (λ _. IsInSome (xs ++ (os ++ ys)) a ⊎ IsWithin at len a) [
      | inl j ↦ inl (in_front xs (os ++ ys) a j)
      | inr j ↦ elim j as (λ _. IsInSome (xs ++ (os ++ ys)) a ⊎ IsWithin at len a) [
        | inl w ↦ elim ((same a).0 w) as (λ _. IsInSome (xs ++ (os ++ ys)) a ⊎ IsWithin at len a) [ inl o ↦ inl (in_rest xs (os ++ ys) a (in_front os ys a o)) | inr v ↦ inr v ]
        | inr k ↦ inl (in_rest xs (os ++ ys) a (in_rest os ys a k))
      ]
    ],
    λ s. elim s as (λ _. IsInSome (xs ++ v ∷ ys) a) [
      | inl i ↦ elim (in_either xs (os ++ ys) a i) as (λ _. IsInSome (xs ++ v ∷ ys) a) [
        | inl j ↦ in_front xs (v ∷ ys) a j
        | inr j ↦ in_rest xs (v ∷ ys) a (elim (in_either os ys a j) as (λ _. IsInSome (v ∷ ys) a) [ inl o ↦ inl ((same a).1 (inl o)) | inr k ↦ inr k ])
      ]
      | inr w ↦ in_rest xs (v ∷ ys) a (inl ((same a).1 (inr w)))
    ],
  );
}
