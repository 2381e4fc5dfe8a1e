-- What passing over a list of pairs finds at a key.
use Rattle.std.proofs.Common.{◌≡◌, ℕ, zero, suc, ◌+◌, ◌<◌, ◌≤◌, ◌==◌, Bool, true, false, cond, not, ◌||◌, List, [], ◌∷◌, map, length, take, get_or, Some, None, option_map, refl, sym, ◌∙◌, ap, subst, arith}
use Rattle.std.specs.Prelude.{slice_get}
use Rattle.std.specs.List.{list_any}
use Rattle.std.proofs.lemmas.Option.{none-some, same_Some}
use Rattle.hm_model.specs.Maps.{at, removed, times, keys}
use Rattle.hm_model.proofs.Lists.{same_eq, other_eq, times_here}

module _ {X : Type 0} where
  pub at_next : (a : ℕ) (l : List (ℕ × X)) (i : ℕ) (d : ℕ × X) → at a (take i l) ≡ None → i < length l → ((get_or l i d).0 == a) ≡ false → at a (take (i + 1) l) ≡ None
  at_next a [] i d none lt off = absurd (omega arith)
  at_next a (e ∷ l) zero d none lt off = ap (λ t. cond t (Some e.1) None) off
  at_next a (e ∷ l) (suc i) d none lt off =
      let more : suc i + 1 ≡ suc (i + 1) = omega arith in
      ap (λ (k : ℕ). at a (take k (e ∷ l))) more
      ∙ elim (e.0 == a) as (λ t. cond t (Some e.1) (at a (take i l)) ≡ None → cond t (Some e.1) (at a (take (i + 1) l)) ≡ None) [
        | true ↦ λ h. h
        | false ↦ λ h. at_next a l i d h (omega (arith, lt)) off
      ] none

  pub at_here : (a : ℕ) (l : List (ℕ × X)) (i : ℕ) (d : ℕ × X) → at a (take i l) ≡ None → i < length l → ((get_or l i d).0 == a) ≡ true → at a l ≡ Some (get_or l i d).1
  at_here a [] i d none lt on = absurd (omega arith)
  at_here a (e ∷ l) zero d none lt on = ap (λ t. cond t (Some e.1) (at a l)) on
  at_here a (e ∷ l) (suc i) d none lt on =
      elim (e.0 == a) as (λ t. cond t (Some e.1) (at a (take i l)) ≡ None → cond t (Some e.1) (at a l) ≡ Some (get_or l i d).1) [
        | true ↦ λ h. absurd (none-some e.1 (sym h))
        | false ↦ λ h. at_here a l i d h (omega (arith, lt)) on
      ] none

  -- the same for the pair that a loop looks at
  pub passed : (a : ℕ) (l : List (ℕ × X)) (i : ℕ) (x : ℕ × X) → x ≡ get_or l i x → at a (take i l) ≡ None → i < length l → (x.0 ≡ a → ⊥) → at a (take (i + 1) l) ≡ None
  passed a l i x is none lt ne = at_next a l i x none lt (ap (λ (z : ℕ × X). z.0 == a) (sym is) ∙ other_eq x.0 a ne)

  pub found : (a : ℕ) (l : List (ℕ × X)) (i : ℕ) (x : ℕ × X) → x ≡ get_or l i x → at a (take i l) ≡ None → i < length l → x.0 ≡ a → at a l ≡ Some x.1
  found a l i x is none lt e = at_here a l i x none lt (ap (λ (z : ℕ × X). z.0 == a) (sym is) ∙ same_eq x.0 a e) ∙ ap (λ (z : ℕ × X). Some z.1) (sym is)

  -- the same where the pair is read by its index
  pub passed_at : (a : ℕ) (l : List (ℕ × X)) (i : ℕ) (d : ℕ × X) → at a (take i l) ≡ None → i < length l → ((get_or l i d).0 ≡ a → ⊥) → at a (take (i + 1) l) ≡ None
  passed_at a l i d none lt ne = at_next a l i d none lt (other_eq (get_or l i d).0 a ne)

  pub found_at : (a : ℕ) (l : List (ℕ × X)) (i : ℕ) (d : ℕ × X) → at a (take i l) ≡ None → i < length l → (get_or l i d).0 ≡ a → at a l ≡ Some (get_or l i d).1
  found_at a l i d none lt e = at_here a l i d none lt (same_eq (get_or l i d).0 a e)

  take_whole : (l : List (ℕ × X)) (n : ℕ) → length l ≤ n → take n l ≡ l
  take_whole [] zero le = refl
  take_whole [] (suc n) le = refl
  take_whole (e ∷ l) zero le = absurd (omega arith)
  take_whole (e ∷ l) (suc n) le = ap (λ m. e ∷ m) (take_whole l n (omega (arith, le)))

  pub none_at : (a : ℕ) (l : List (ℕ × X)) (n : ℕ) → at a (take n l) ≡ None → length l ≤ n → at a l ≡ None
  none_at a l n none le = ap (at a) (sym (take_whole l n le)) ∙ none

  any_next : (test : ℕ × X → Bool) (l : List (ℕ × X)) (i : ℕ) (d : ℕ × X) → list_any test (take i l) ≡ false → i < length l → test (get_or l i d) ≡ false → list_any test (take (i + 1) l) ≡ false
  any_next test [] i d none lt off = absurd (omega arith)
  any_next test (e ∷ l) zero d none lt off = ap (λ b. b || false) off
  any_next test (e ∷ l) (suc i) d none lt off =
      let more : suc i + 1 ≡ suc (i + 1) = omega arith in
      ap (λ (k : ℕ). list_any test (take k (e ∷ l))) more
      ∙ elim (test e) as (λ t. (t || list_any test (take i l)) ≡ false → (t || list_any test (take (i + 1) l)) ≡ false) [
        | true ↦ λ h. h
        | false ↦ λ h. any_next test l i d h (omega (arith, lt)) off
      ] none

  pub none_any : (test : ℕ × X → Bool) (l : List (ℕ × X)) (n : ℕ) → list_any test (take n l) ≡ false → length l ≤ n → list_any test l ≡ false
  none_any test l n none le = ap (list_any test) (sym (take_whole l n le)) ∙ none

  -- a pair of the list counts as one of its key
  times_index : (l : List (ℕ × X)) (i : ℕ) (x : ℕ × X) → slice_get l i ≡ Some x → 1 ≤ times x.0 (keys l)
  times_index [] i x is = absurd (none-some x is)
  times_index (e ∷ l) zero x is = subst (λ (z : ℕ × X). 1 ≤ times z.0 (keys (e ∷ l))) (same_Some e x is) (omega (arith, times_here e.0 (keys l)))
  times_index (e ∷ l) (suc i) x is = omega (arith, times_index l i x is)

  -- where a key stands once, its pair is what stands there
  pub at_index : (l : List (ℕ × X)) (i : ℕ) (x : ℕ × X) → slice_get l i ≡ Some x → times x.0 (keys l) ≤ 1 → at x.0 l ≡ Some x.1
  at_index [] i x is once = absurd (none-some x is)
  at_index (e ∷ l) zero x is once = subst (λ (z : ℕ × X). at z.0 (e ∷ l) ≡ Some z.1) (same_Some e x is) (ap (λ t. cond t (Some e.1) (at e.0 l)) (same_eq e.0 e.0 refl))
  at_index (e ∷ l) (suc i) x is once =
      elim (e.0 == x.0) as (λ t. cond t 1 0 + times x.0 (keys l) ≤ 1 → cond t (Some e.1) (at x.0 l) ≡ Some x.1) [
        | true ↦ λ u. absurd (omega (arith, u, times_index l i x is))
        | false ↦ λ u. at_index l i x is (omega (arith, u))
      ] once

-- ---- each value is changed
module _ {X Y : Type 0} (f : X → Y) where
  abbrev pub pair_of : ℕ × X → ℕ × Y
  pair_of e = (e.0, f e.1)

  pub at_pairs : (a : ℕ) (l : List (ℕ × X)) → at a (map pair_of l) ≡ option_map f (at a l)
  at_pairs a [] = refl
  at_pairs a (e ∷ l) = elim (e.0 == a) as (λ t. cond t (Some (f e.1)) (at a (map pair_of l)) ≡ option_map f (cond t (Some e.1) (at a l))) [ true ↦ refl | false ↦ at_pairs a l ]

  pub removed_pairs : (a : ℕ) (l : List (ℕ × X)) → map pair_of (removed a l) ≡ removed a (map pair_of l)
  removed_pairs a [] = refl
  removed_pairs a (e ∷ l) =
      elim (e.0 == a) as (λ t. map pair_of (cond (not t) (e ∷ removed a l) (removed a l)) ≡ cond (not t) ((e.0, f e.1) ∷ removed a (map pair_of l)) (removed a (map pair_of l))) [
        | true ↦ removed_pairs a l
        | false ↦ ap (λ m. (e.0, f e.1) ∷ m) (removed_pairs a l)
      ]

  pub length_pairs : (l : List (ℕ × X)) → length (map pair_of l) ≡ length l
  length_pairs [] = refl
  length_pairs (e ∷ l) = ap suc (length_pairs l)

  pub slice_pairs : (l : List (ℕ × X)) (i : ℕ) → slice_get (map pair_of l) i ≡ option_map pair_of (slice_get l i)
  slice_pairs [] i = refl
  slice_pairs (e ∷ l) zero = refl
  slice_pairs (e ∷ l) (suc i) = slice_pairs l i
