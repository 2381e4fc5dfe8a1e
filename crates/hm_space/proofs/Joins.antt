-- A range put into a list of ranges that are apart, joined with those that it touches.
use Rattle.std.proofs.Common.{◌≡◌, ◌≢◌, ◌+◌, ◌-◌, ◌^◌, ◌<◌, ◌≤◌, ℕ, suc, slice_get, Some, None, List, [], ◌∷◌, ◌++◌, take, drop, sym, ap, subst, ◌∙◌, arith, ◌⊎◌, inl, inr}
use Rattle.std.specs.Prelude.{Option, IfSome, IfNone}
use Rattle.std.proofs.lemmas.Bool.{cases_lt}
use Rattle.std.proofs.lemmas.List.{take-append-drop}
use Rattle.hm_space.specs.declared.free_range.FreeRange.{FreeRange}
use Rattle.hm_space.specs.Ranges.{end_of, IsWithin, IsInSome, AreApart, Gives}
use Rattle.hm_space.proofs.Apart.{behind, lower_apart, rest_apart}
use Rattle.hm_space.proofs.Cuts.{gives}
use Rattle.hm_space.proofs.Indices.{split_one, split_two}

-- the ranges that it touches

pub record IsLower (rs : List FreeRange) (index at : ℕ) (l : FreeRange) : Type 0 where
  pub some : 0 < index
  pub here : slice_get rs (index - 1) ≡ Some l
  pub ends : l.start + l.len ≡ at

pub record IsUpper (rs : List FreeRange) (index at : ℕ) (u : FreeRange) : Type 0 where
  pub here : slice_get rs index ≡ Some u
  pub starts : u.start ≡ at

pub is_lower :
    (rs read : List FreeRange) (index at : ℕ) (o : Option FreeRange) (l : FreeRange) → read ≡ rs → o ≡ Some l → IfSome o (λ r. (0 < index) × (slice_get read (index - 1) ≡ Some r) × (end_of r ≡ at)) → IsLower rs index at l
is_lower rs read index at o l same is h =
    let f = subst (λ (x : Option FreeRange). IfSome x (λ r. (0 < index) × (slice_get read (index - 1) ≡ Some r) × (end_of r ≡ at))) is h in
    record { some = f.0; here = ap (λ (xs : List FreeRange). slice_get xs (index - 1)) (sym same) ∙ f.1; ends = f.2 }

pub is_upper : (rs read : List FreeRange) (index at : ℕ) (o : Option FreeRange) (u : FreeRange) → read ≡ rs → o ≡ Some u → IfSome o (λ r. (slice_get read index ≡ Some r) × (r.start ≡ at)) → IsUpper rs index at u
is_upper rs read index at o u same is h =
    let f = subst (λ (x : Option FreeRange). IfSome x (λ r. (slice_get read index ≡ Some r) × (r.start ≡ at))) is h in
    record { here = ap (λ (xs : List FreeRange). slice_get xs index) (sym same) ∙ f.0; starts = f.1 }

pub no_lower :
    (rs read : List FreeRange) (index at : ℕ) (o : Option FreeRange) → read ≡ rs → o ≡ None → IfNone o (0 < index → IfSome (slice_get read (index - 1)) (λ r. end_of r ≢ at)) → 0 < index → IfSome (slice_get rs (index - 1)) (λ r. end_of r ≢ at)
no_lower rs read index at o same is h =
    subst (λ (xs : List FreeRange). 0 < index → IfSome (slice_get xs (index - 1)) (λ r. end_of r ≢ at)) same (subst (λ (x : Option FreeRange). IfNone x (0 < index → IfSome (slice_get read (index - 1)) (λ r. end_of r ≢ at))) is h)

pub no_upper :
    (rs read : List FreeRange) (index at : ℕ) (o : Option FreeRange) → read ≡ rs → o ≡ None → IfNone o (IfSome (slice_get read index) (λ r. r.start ≢ at)) → IfSome (slice_get rs index) (λ r. r.start ≢ at)
no_upper rs read index at o same is h =
    subst (λ (xs : List FreeRange). IfSome (slice_get xs index) (λ r. r.start ≢ at)) same (subst (λ (x : Option FreeRange). IfNone x (IfSome (slice_get read index) (λ r. r.start ≢ at))) is h)

-- what the list is then, in each of the four cases

pub joins_both :
    (rs : List FreeRange) (i at len : ℕ) (l u : FreeRange) → AreApart 0 rs → slice_get rs i ≡ Some l → slice_get rs (suc i) ≡ Some u → l.start + l.len ≡ at → u.start ≡ at + len
    → Gives rs (take i rs ++ record { start = l.start; len = l.len + len + u.len } ∷ drop (suc (suc i)) rs) at len
joins_both rs i at len l u apart is_l is_u ends starts =
    let v : FreeRange = record { start = l.start; len = l.len + len + u.len } in
    let front = take i rs in
    let back = drop (suc (suc i)) rs in
    let split = split_two rs i l u is_l is_u in
    let h = subst (AreApart 0) split apart in
    let r = rest_apart 0 front (l ∷ u ∷ back) h in
    subst (λ (old : List FreeRange). Gives old (front ++ v ∷ back) at len) (sym split)
    (gives front (l ∷ u ∷ []) back v at len h
    (record { from = r.0.from; some = omega (arith, r.0.some); below = omega (arith, r.1.0.below, ends, starts) })
    (lower_apart (end_of v + 1) (end_of u + 1) back (omega (arith, ends, starts)) r.1.1)
    (λ a. (
      λ w. elim (cases_lt a at) as (λ _. IsInSome (l ∷ u ∷ []) a ⊎ IsWithin at len a) [
        | inl lt ↦ inl (inl (record { from = w.from; below = omega (arith, lt, ends) }))
        | inr ge ↦ elim (cases_lt a (at + len)) as (λ _. IsInSome (l ∷ u ∷ []) a ⊎ IsWithin at len a) [
          | inl lt ↦ inr (record { from = ge; below = lt })
          | inr past ↦ inl (inr (inl (record { from = omega (arith, past, starts); below = omega (arith, w.below, ends, starts) })))
        ]
      ],
      λ s. elim s as (λ _. IsWithin v.start v.len a) [
        | inl j ↦ elim j as (λ _. IsWithin v.start v.len a) [
          | inl w ↦ record { from = w.from; below = omega (arith, w.below) }
          | inr k ↦ elim k as (λ _. IsWithin v.start v.len a) [
            | inl w ↦ record { from = omega (arith, w.from, ends, starts); below = omega (arith, w.below, ends, starts) }
            | inr none ↦ absurd none
          ]
        ]
        | inr w ↦ record { from = omega (arith, w.from, ends); below = omega (arith, w.below, ends) }
      ],
    )))

pub joins_lower :
    (rs : List FreeRange) (i at len : ℕ) (l : FreeRange) → AreApart 0 rs → slice_get rs i ≡ Some l → l.start + l.len ≡ at → at + len < 2 ^ 64 → AreApart (at + len + 1) (drop (suc i) rs)
    → Gives rs (take i rs ++ record { start = l.start; len = l.len + len } ∷ drop (suc i) rs) at len
joins_lower rs i at len l apart is_l ends below past =
    let v : FreeRange = record { start = l.start; len = l.len + len } in
    let front = take i rs in
    let back = drop (suc i) rs in
    let split = split_one rs i l is_l in
    let h = subst (AreApart 0) split apart in
    let r = rest_apart 0 front (l ∷ back) h in
    subst (λ (old : List FreeRange). Gives old (front ++ v ∷ back) at len) (sym split)
    (gives front (l ∷ []) back v at len h
    (record { from = r.0.from; some = omega (arith, r.0.some); below = omega (arith, below, ends) })
    (lower_apart (end_of v + 1) (at + len + 1) back (omega (arith, ends)) past)
    (λ a. (
      λ w. elim (cases_lt a at) as (λ _. IsInSome (l ∷ []) a ⊎ IsWithin at len a) [
        | inl lt ↦ inl (inl (record { from = w.from; below = omega (arith, lt, ends) }))
        | inr ge ↦ inr (record { from = ge; below = omega (arith, w.below, ends) })
      ],
      λ s. elim s as (λ _. IsWithin v.start v.len a) [
        | inl j ↦ elim j as (λ _. IsWithin v.start v.len a) [
          | inl w ↦ record { from = w.from; below = omega (arith, w.below) }
          | inr none ↦ absurd none
        ]
        | inr w ↦ record { from = omega (arith, w.from, ends); below = omega (arith, w.below, ends) }
      ],
    )))

pub joins_upper :
    (rs : List FreeRange) (i at len : ℕ) (u : FreeRange) → AreApart 0 rs → slice_get rs i ≡ Some u → u.start ≡ at + len → 1 ≤ len → behind 0 (take i rs) ≤ at
    → Gives rs (take i rs ++ record { start = at; len = len + u.len } ∷ drop (suc i) rs) at len
joins_upper rs i at len u apart is_u starts some le =
    let v : FreeRange = record { start = at; len = len + u.len } in
    let front = take i rs in
    let back = drop (suc i) rs in
    let split = split_one rs i u is_u in
    let h = subst (AreApart 0) split apart in
    let r = rest_apart 0 front (u ∷ back) h in
    subst (λ (old : List FreeRange). Gives old (front ++ v ∷ back) at len) (sym split)
    (gives front (u ∷ []) back v at len h
    (record { from = le; some = omega arith; below = omega (arith, r.0.below, starts) })
    (lower_apart (end_of v + 1) (end_of u + 1) back (omega (arith, starts)) r.1)
    (λ a. (
      λ w. elim (cases_lt a (at + len)) as (λ _. IsInSome (u ∷ []) a ⊎ IsWithin at len a) [
        | inl lt ↦ inr (record { from = w.from; below = lt })
        | inr ge ↦ inl (inl (record { from = omega (arith, ge, starts); below = omega (arith, w.below, starts) }))
      ],
      λ s. elim s as (λ _. IsWithin v.start v.len a) [
        | inl j ↦ elim j as (λ _. IsWithin v.start v.len a) [
          | inl w ↦ record { from = omega (arith, w.from, starts); below = omega (arith, w.below, starts) }
          | inr none ↦ absurd none
        ]
        | inr w ↦ record { from = w.from; below = omega (arith, w.below) }
      ],
    )))

pub joins_none :
    (rs : List FreeRange) (i at len : ℕ) → AreApart 0 rs → 1 ≤ len → at + len < 2 ^ 64 → behind 0 (take i rs) ≤ at → AreApart (at + len + 1) (drop i rs) → Gives rs (take i rs ++ record { start = at; len = len } ∷ drop i rs) at len
joins_none rs i at len apart some below le past =
    let v : FreeRange = record { start = at; len = len } in
    let front = take i rs in
    let back = drop i rs in
    let split = sym (take-append-drop i rs) in
    let h = subst (AreApart 0) split apart in
    subst (λ (old : List FreeRange). Gives old (front ++ v ∷ back) at len) (sym split)
    (gives front [] back v at len h (record { from = le; some = omega arith; below = below }) past
    (λ a. (λ w. inr w, λ s. elim s as (λ _. IsWithin v.start v.len a) [ inl none ↦ absurd none | inr w ↦ w ])))
