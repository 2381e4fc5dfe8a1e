-- A list of keyed values, whose keys rise: what is found in it once a value comes, goes or has another in its place.
use Rattle.std.proofs.Common.{◌≡◌, ℕ, zero, suc, ◌<◌, List, [], ◌∷◌, map, set, Bool, true, false, cond, Option, Some, None, slice_get, refl, sym, ap, ◌∙◌, arith}
use Rattle.std.proofs.lemmas.Option.{none-some, same_Some}
use Rattle.std.proofs.lemmas.Bool.{and_parts}
use Rattle.std.proofs.lemmas.Bool.Decides.{nat_tests}
use Rattle.std.proofs.lemmas.Cmp.{nat_cmp_total}
use Rattle.std.specs.List.{insert, remove}
use Rattle.std.specs.Ordering.{nat_cmp, eq_by_cmp}
use Rattle.std.specs.FinMap as maps
use Rattle.std.specs.FinMap.{find, is_sorted, get-from_entries, get-insert, get-remove, same_map, nat_cmp-IsAntisymmetric}
use Rattle.std.specs.FinMap.Entries.{below_all}
use Rattle.hm_outside.specs.RunLaws.{number, less_is, above_get}

same_tie : (x a b : ℕ) → a ≡ b → eq_by_cmp nat_cmp x a ≡ eq_by_cmp nat_cmp x b
same_tie x a b e = ap (λ (n : ℕ). eq_by_cmp nat_cmp x n) e

not_both : (x a b : ℕ) → a < b → eq_by_cmp nat_cmp x b ≡ true → eq_by_cmp nat_cmp x a ≡ true → ⊥
not_both x a b lt e f = absurd (omega (arith, number x b e, number x a f))

module _ {V : Type 0} where
  shadow : (b : Bool) (x y z : Option V) → cond b x z ≡ cond b x (cond b y z)
  shadow true x y z = refl
  shadow false x y z = refl

  swap : (a b : Bool) (x y z : Option V) → (a ≡ true → b ≡ true → ⊥) → cond b y (cond a x z) ≡ cond a x (cond b y z)
  swap true true x y z ne = absurd (ne refl refl)
  swap true false x y z ne = refl
  swap false b x y z ne = refl

  -- new bytes

  find_set :
      (runs : List (ℕ × V)) (i : ℕ) (run : ℕ × V) (b : V) (x : ℕ) → is_sorted nat_cmp runs ≡ true → slice_get runs i ≡ Some run
      → find nat_cmp x (set runs i (run.0, b)) ≡ cond (eq_by_cmp nat_cmp x run.0) (Some b) (find nat_cmp x runs)
  find_set [] i run b x s is = absurd (none-some run is)
  find_set (r ∷ runs) zero run b x s is =
      shadow (eq_by_cmp nat_cmp x run.0) (Some b) (Some r.1) (find nat_cmp x runs)
      ∙ ap (λ (t : Bool). cond (eq_by_cmp nat_cmp x run.0) (Some b) (cond t (Some r.1) (find nat_cmp x runs))) (same_tie x run.0 r.0 (ap (λ (y : ℕ × V). y.0) (sym (same_Some r run is))))
  find_set (r ∷ runs) (suc i) run b x s is =
      ap (λ (o : Option V). cond (eq_by_cmp nat_cmp x r.0) (Some r.1) o) (find_set runs i run b x (and_parts _ _ s).1 is)
      ∙ swap (eq_by_cmp nat_cmp x run.0) (eq_by_cmp nat_cmp x r.0) (Some b) (Some r.1) (find nat_cmp x runs) (not_both x r.0 run.0 (above_get r.0 runs i run (and_parts _ _ s).0 is))

  -- a run goes

  below_none : (low : ℕ) (runs : List (ℕ × V)) → below_all nat_cmp low runs ≡ true → find nat_cmp low runs ≡ None
  below_none low [] below = refl
  below_none low (r ∷ runs) below =
      ap (λ (b : Bool). cond b (Some r.1) (find nat_cmp low runs)) (apart low r.0 (less_is low r.0 (and_parts _ _ below).0)) ∙ below_none low runs (and_parts _ _ below).1
    where
      apart : (a b : ℕ) → a < b → eq_by_cmp nat_cmp a b ≡ false
      apart a b e = grind (arith, nat_tests)

  head_gone : (runs : List (ℕ × V)) (r : ℕ × V) (x : ℕ) → below_all nat_cmp r.0 runs ≡ true → find nat_cmp x runs ≡ cond (eq_by_cmp nat_cmp x r.0) None (cond (eq_by_cmp nat_cmp x r.0) (Some r.1) (find nat_cmp x runs))
  head_gone runs r x below =
      elim (eq_by_cmp nat_cmp x r.0) as (λ t. eq_by_cmp nat_cmp x r.0 ≡ t → find nat_cmp x runs ≡ cond t None (cond t (Some r.1) (find nat_cmp x runs))) [
        | true ↦ λ tie. ap (λ (n : ℕ). find nat_cmp n runs) (number x r.0 tie) ∙ below_none r.0 runs below
        | false ↦ λ miss. refl
      ] refl

  find_remove :
      (runs : List (ℕ × V)) (i : ℕ) (run : ℕ × V) (x : ℕ) → is_sorted nat_cmp runs ≡ true → slice_get runs i ≡ Some run → find nat_cmp x (remove runs i) ≡ cond (eq_by_cmp nat_cmp x run.0) None (find nat_cmp x runs)
  find_remove [] i run x s is = absurd (none-some run is)
  find_remove (r ∷ runs) zero run x s is =
      head_gone runs r x (and_parts _ _ s).0
      ∙ ap (λ (t : Bool). cond t None (cond (eq_by_cmp nat_cmp x r.0) (Some r.1) (find nat_cmp x runs))) (same_tie x r.0 run.0 (ap (λ (y : ℕ × V). y.0) (same_Some r run is)))
  find_remove (r ∷ runs) (suc i) run x s is =
      ap (λ (o : Option V). cond (eq_by_cmp nat_cmp x r.0) (Some r.1) o) (find_remove runs i run x (and_parts _ _ s).1 is)
      ∙ swap (eq_by_cmp nat_cmp x run.0) (eq_by_cmp nat_cmp x r.0) None (Some r.1) (find nat_cmp x runs) (not_both x r.0 run.0 (above_get r.0 runs i run (and_parts _ _ s).0 is))

  -- a run comes

  find_insert :
      (runs : List (ℕ × V)) (i q : ℕ) (b : V) (x : ℕ) → find nat_cmp q runs ≡ None → find nat_cmp x (insert runs i (q, b)) ≡ cond (eq_by_cmp nat_cmp x q) (Some b) (find nat_cmp x runs)
  find_insert [] zero q b x none = refl
  find_insert [] (suc i) q b x none = refl
  find_insert (r ∷ runs) zero q b x none = refl
  find_insert (r ∷ runs) (suc i) q b x none =
      elim (eq_by_cmp nat_cmp q r.0) as (λ t. eq_by_cmp nat_cmp q r.0 ≡ t → cond t (Some r.1) (find nat_cmp q runs) ≡ None → find nat_cmp x (insert (r ∷ runs) (suc i) (q, b)) ≡ cond (eq_by_cmp nat_cmp x q) (Some b) (find nat_cmp x (r ∷ runs))) [
        | true ↦ λ tie has. absurd (none-some r.1 (sym has))
        | false ↦ λ miss has. ap (λ (o : Option V). cond (eq_by_cmp nat_cmp x r.0) (Some r.1) o) (find_insert runs i q b x has)
            ∙ swap (eq_by_cmp nat_cmp x q) (eq_by_cmp nat_cmp x r.0) (Some b) (Some r.1) (find nat_cmp x runs) (one_tie x q r.0 miss)
      ] refl none
    where
      one_tie : (x a b : ℕ) → eq_by_cmp nat_cmp a b ≡ false → eq_by_cmp nat_cmp x a ≡ true → eq_by_cmp nat_cmp x b ≡ true → ⊥
      one_tie x a b e f g = grind (arith, nat_tests)

  same_entries : (runs : List (ℕ × V)) (m : maps.FinMap nat_cmp V) → ((x : ℕ) → find nat_cmp x runs ≡ maps.get m x) → maps.from_entries runs ≡ m
  same_entries runs m is = same_map nat_cmp_total nat_cmp-IsAntisymmetric _ _ (λ x. get-from_entries nat_cmp_total runs x ∙ is x)

  -- ---- the maps of such lists
  pub map_set : (runs : List (ℕ × V)) (i : ℕ) (run : ℕ × V) (b : V) → is_sorted nat_cmp runs ≡ true → slice_get runs i ≡ Some run
      → maps.from_entries {R = nat_cmp} (set runs i (run.0, b)) ≡ maps.insert (maps.from_entries runs) run.0 b
  map_set runs i run b s is = same_entries _ _ (λ x.
      find_set runs i run b x s is
      ∙ ap (λ o. cond (eq_by_cmp nat_cmp x run.0) (Some b) o) (sym (get-from_entries nat_cmp_total runs x))
      ∙ sym (get-insert nat_cmp_total (maps.from_entries runs) run.0 b x))

  pub map_remove : (runs : List (ℕ × V)) (i : ℕ) (run : ℕ × V) → is_sorted nat_cmp runs ≡ true → slice_get runs i ≡ Some run
      → maps.from_entries {R = nat_cmp} (remove runs i) ≡ maps.remove (maps.from_entries runs) run.0
  map_remove runs i run s is = same_entries _ _ (λ x.
      find_remove runs i run x s is
      ∙ ap (λ o. cond (eq_by_cmp nat_cmp x run.0) None o) (sym (get-from_entries nat_cmp_total runs x))
      ∙ sym (get-remove nat_cmp_total (maps.from_entries runs) run.0 x))

  pub map_insert : (runs : List (ℕ × V)) (i q : ℕ) (b : V) → find nat_cmp q runs ≡ None
      → maps.from_entries {R = nat_cmp} (insert runs i (q, b)) ≡ maps.insert (maps.from_entries runs) q b
  map_insert runs i q b none = same_entries _ _ (λ x.
      find_insert runs i q b x none
      ∙ ap (λ o. cond (eq_by_cmp nat_cmp x q) (Some b) o) (sym (get-from_entries nat_cmp_total runs x))
      ∙ sym (get-insert nat_cmp_total (maps.from_entries runs) q b x))

-- ---- a list that is told value by value
pub told_remove : {A B : Type 0} → (f : A → B) (xs : List A) (i : ℕ) → map f (remove xs i) ≡ remove (map f xs) i
told_remove f [] zero = refl
told_remove f [] (suc i) = refl
told_remove f (x ∷ xs) zero = refl
told_remove f (x ∷ xs) (suc i) = ap (λ l. f x ∷ l) (told_remove f xs i)

pub told_insert : {A B : Type 0} → (f : A → B) (xs : List A) (i : ℕ) (x : A) → map f (insert xs i x) ≡ insert (map f xs) i (f x)
told_insert f [] zero x = refl
told_insert f [] (suc i) x = refl
told_insert f (y ∷ xs) zero x = refl
told_insert f (y ∷ xs) (suc i) x = ap (λ l. f y ∷ l) (told_insert f xs i x)
