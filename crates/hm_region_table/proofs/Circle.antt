-- Cells in a circle.
use Rattle.std.proofs.Common.{◌≡◌, ℕ, ◌+◌, ◌-◌, ◌<◌, ◌≤◌, ◌⊎◌, inl, inr, true, false, cond, nat_eq, refl, arith}
use Rattle.std.proofs.lemmas.Bool.Decides.{nat_tests}
use Rattle.std.proofs.lemmas.Nat.{mod_below}
use Rattle.hm_region_table.specs.Cells.{spread, home, next, IsOn}

-- the same distance leads to the same cell
pub same_index : (n s d p q : ℕ) → s < n → IsOn n s d p → IsOn n s d q → p ≡ q
same_index n s d p q lt (inp, a) (inq, b) = elim a [
  | inl x ↦ elim b [ inl y ↦ omega arith | inr y ↦ omega arith ]
  | inr x ↦ elim b [ inl y ↦ omega arith | inr y ↦ omega arith ]
]

-- and the other way round
pub same_far : (n s d e p : ℕ) → s < n → d < n → e < n → IsOn n s d p → IsOn n s e p → d ≡ e
same_far n s d e p lt ld le (inp, a) (inq, b) = elim a [
  | inl x ↦ elim b [ inl y ↦ omega arith | inr y ↦ omega arith ]
  | inr x ↦ elim b [ inl y ↦ omega arith | inr y ↦ omega arith ]
]

pub by_order : (a b : ℕ) → (a < b) ⊎ ((a ≡ b) ⊎ (b < a))
by_order a b = grind arith

below_or_not : (a b : ℕ) → (a < b) ⊎ (b ≤ a)
below_or_not a b = grind arith

-- how far a cell is
pub distance : (n s p : ℕ) → s < n → p < n → (d : ℕ) × (d < n) × IsOn n s d p
distance n s p ls lp = elim (below_or_not p s) [
  | inl less ↦ (p + n - s, omega arith, (lp, inr (omega arith)))
  | inr more ↦ (p - s, omega arith, (lp, inl (omega arith)))
]

at_end : (a b : ℕ) → nat_eq a b ≡ true → a ≡ b
at_end a b e = grind (arith, nat_tests)

not_end : (p n : ℕ) → p < n → nat_eq (p + 1) n ≡ false → p + 1 < n
not_end p n lt e = grind (arith, nat_tests)

-- the next cell is one further
pub on_next : (n s d p : ℕ) → s < n → d < n → IsOn n s d p → IsOn n s (d + 1) (next n p)
on_next n s d p ls ld (inp, a) =
    elim (nat_eq (p + 1) n) as (λ t. nat_eq (p + 1) n ≡ t → IsOn n s (d + 1) (cond t 0 (p + 1))) [
      | true ↦ λ e. let last = at_end (p + 1) n e in (omega arith, elim a [ inl x ↦ inr (omega arith) | inr x ↦ absurd (omega arith) ])
      | false ↦ λ e. let less = not_end p n inp e in (less, elim a [ inl x ↦ inl (omega arith) | inr x ↦ inr (omega arith) ])
    ] refl

-- distances add up and are taken apart
pub on_add : (n s a b x y : ℕ) → s < n → a + b < n → IsOn n s a x → IsOn n x b y → IsOn n s (a + b) y
on_add n s a b x y ls few (inx, i) (iny, j) = (
  iny,
  elim i [
    | inl e ↦ elim j [ inl f ↦ inl (omega arith) | inr f ↦ inr (omega arith) ]
    | inr e ↦ elim j [ inl f ↦ inr (omega arith) | inr f ↦ absurd (omega arith) ]
  ],
)

pub on_sub : (n s a b x y : ℕ) → s < n → a ≤ b → b < n → IsOn n s a x → IsOn n s b y → IsOn n x (b - a) y
on_sub n s a b x y ls le lb (inx, i) (iny, j) = (
  iny,
  elim i [
    | inl e ↦ elim j [ inl f ↦ inl (omega arith) | inr f ↦ inr (omega arith) ]
    | inr e ↦ elim j [ inl f ↦ absurd (omega arith) | inr f ↦ inl (omega arith) ]
  ],
)

-- back before its start
pub on_round : (n s a b x y : ℕ) → s < n → b < a → a < n → IsOn n s a x → IsOn n s b y → IsOn n x (b + n - a) y
on_round n s a b x y ls less la (inx, i) (iny, j) = (
  iny,
  elim i [
    | inl e ↦ elim j [ inl f ↦ inr (omega arith) | inr f ↦ absurd (omega arith) ]
    | inr e ↦ elim j [ inl f ↦ inl (omega arith) | inr f ↦ inr (omega arith) ]
  ],
)

-- the cell from which it is b further, on the way
pub on_back : (n s b d x y : ℕ) → s < n → x < n → b ≤ d → d < n → IsOn n x b y → IsOn n s d y → IsOn n s (d - b) x
on_back n s b d x y ls lx le ld (iny, i) (iny', j) = (
  lx,
  elim i [
    | inl e ↦ elim j [ inl f ↦ inl (omega arith) | inr f ↦ inr (omega arith) ]
    | inr e ↦ elim j [ inl f ↦ absurd (omega arith) | inr f ↦ inl (omega arith) ]
  ],
)

-- a home is one of the cells
pub home_less : (n a : ℕ) → 0 < n → home n a < n
unfolding home
home_less n a lt = mod_below (spread a) n lt
