-- Ranges that rise and are apart: joined lists of them, and where their addresses lie.
use Rattle.std.proofs.Common.{ℕ, ◌+◌, ◌<◌, ◌≤◌, List, [], ◌∷◌, ◌++◌, ◌⊎◌, inl, inr, arith}
use Rattle.hm_space.specs.declared.free_range.FreeRange.{FreeRange}
use Rattle.hm_space.specs.Ranges.{end_of, IsInSome, IsRangeFrom, AreApart}

-- from where on the next range may begin
abbrev pub behind : ℕ → List FreeRange → ℕ
behind low [] = low
behind low (r ∷ rs) = behind (end_of r + 1) rs

pub lower_from : (low high : ℕ) (r : FreeRange) → low ≤ high → IsRangeFrom high r → IsRangeFrom low r
lower_from low high r le h = record { from = omega (arith, h.from); some = h.some; below = h.below }

pub lower_apart : (low high : ℕ) (rs : List FreeRange) → low ≤ high → AreApart high rs → AreApart low rs
lower_apart low high [] le h = tt
lower_apart low high (r ∷ rs) le h = (lower_from low high r le h.0, h.1)

pub front_apart : (low : ℕ) (xs ys : List FreeRange) → AreApart low (xs ++ ys) → AreApart low xs
front_apart low [] ys h = tt
front_apart low (x ∷ xs) ys h = (h.0, front_apart (end_of x + 1) xs ys h.1)

pub rest_apart : (low : ℕ) (xs ys : List FreeRange) → AreApart low (xs ++ ys) → AreApart (behind low xs) ys
rest_apart low [] ys h = h
rest_apart low (x ∷ xs) ys h = rest_apart (end_of x + 1) xs ys h.1

pub both_apart : (low : ℕ) (xs ys : List FreeRange) → AreApart low xs → AreApart (behind low xs) ys → AreApart low (xs ++ ys)
both_apart low [] ys h k = k
both_apart low (x ∷ xs) ys h k = (h.0, both_apart (end_of x + 1) xs ys h.1 k)

-- no address lies below the first range that may be there
pub in_from : (low : ℕ) (rs : List FreeRange) (a : ℕ) → AreApart low rs → IsInSome rs a → low ≤ a
in_from low [] a h i = absurd i
in_from low (r ∷ rs) a h (inl w) = omega (arith, h.0.from, w.from)
in_from low (r ∷ rs) a h (inr i) = omega (arith, h.0.from, h.0.some, in_from (end_of r + 1) rs a h.1 i)

pub behind_up : (low : ℕ) (rs : List FreeRange) → AreApart low rs → low ≤ behind low rs
behind_up low [] h = omega arith
behind_up low (r ∷ rs) h = omega (arith, h.0.from, h.0.some, behind_up (end_of r + 1) rs h.1)

-- each address lies before what follows
pub in_before : (low : ℕ) (rs : List FreeRange) (a : ℕ) → AreApart low rs → IsInSome rs a → a < behind low rs
in_before low [] a h i = absurd i
in_before low (r ∷ rs) a h (inl w) = omega (arith, w.below, behind_up (end_of r + 1) rs h.1)
in_before low (r ∷ rs) a h (inr i) = in_before (end_of r + 1) rs a h.1 i

-- the addresses of joined lists
pub in_front : (xs ys : List FreeRange) (a : ℕ) → IsInSome xs a → IsInSome (xs ++ ys) a
in_front [] ys a i = absurd i
in_front (x ∷ xs) ys a (inl w) = inl w
in_front (x ∷ xs) ys a (inr i) = inr (in_front xs ys a i)

pub in_rest : (xs ys : List FreeRange) (a : ℕ) → IsInSome ys a → IsInSome (xs ++ ys) a
in_rest [] ys a i = i
in_rest (x ∷ xs) ys a i = inr (in_rest xs ys a i)

pub in_either : (xs ys : List FreeRange) (a : ℕ) → IsInSome (xs ++ ys) a → IsInSome xs a ⊎ IsInSome ys a
in_either [] ys a i = inr i
in_either (x ∷ xs) ys a (inl w) = inl (inl w)
in_either (x ∷ xs) ys a (inr i) = elim (in_either xs ys a i) as (λ _. IsInSome (x ∷ xs) a ⊎ IsInSome ys a) [ inl j ↦ inl (inr j) | inr j ↦ inr j ]
