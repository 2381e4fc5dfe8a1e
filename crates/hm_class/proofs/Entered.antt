-- Maps from numbers, after a key was put or removed.
use Rattle.std.proofs.Common.{◌≡◌, ◌≢◌, ℕ, ◌+◌, ◌≤◌, ◌==◌, Bool, true, false, cond, not, List, [], ◌∷◌, length, Option, Some, is_some, sym, ◌∙◌, ap, refl, arith, true≢false}
use Rattle.std.specs.Option.{option_map_or}
use Rattle.hm_model.specs.Maps.{at, has, removed, put}
use Rattle.hm_model.specs.Overlaid.{overlaid}
use Rattle.hm_sizes.specs.Shapes.{slab_at}
use Rattle.hm_class_rules.specs.State.{Slab}
use Rattle.hm_class_rules.specs.Bytes.{overlaid_slabs}
use Rattle.hm_class_rules.proofs.Whole.{at_removed}
use Rattle.hm_model.proofs.Lists.{same_eq, other_eq, eq_same}
use Rattle.hm_sizes.specs.declared.shape.Shape.{Shape}

module _ {X : Type 0} where
  pub at_put_same : (n k : ℕ) (x : X) (m : List (ℕ × X)) → n ≡ k → at k (put n x m) ≡ Some x
  at_put_same n k x m e = ap (λ (t : Bool). cond t (Some x) (at k (removed n m))) (same_eq n k e)

  pub at_put_other : (n k : ℕ) (x : X) (m : List (ℕ × X)) → n ≢ k → at k (put n x m) ≡ at k m
  at_put_other n k x m ne = ap (λ (t : Bool). cond t (Some x) (at k (removed n m))) (other_eq n k ne) ∙ at_removed n k m ne

  pub has_removed_same : (k : ℕ) (m : List (ℕ × X)) → has k (removed k m) ≡ false
  has_removed_same k [] = refl
  has_removed_same k (e ∷ m) =
      elim (e.0 == k) as (λ b. (e.0 == k) ≡ b → has k (cond (not b) (e ∷ removed k m) (removed k m)) ≡ false) [
        | true ↦ λ is. has_removed_same k m
        | false ↦ λ is. ap (λ (b : Bool). is_some (cond b (Some e.1) (at k (removed k m)))) is ∙ has_removed_same k m
      ] refl

  pub has_removed_other : (q k : ℕ) (m : List (ℕ × X)) → k ≢ q → has q (removed k m) ≡ has q m
  has_removed_other q k [] ne = refl
  has_removed_other q k (e ∷ m) ne =
      elim (e.0 == k) as (λ b. (e.0 == k) ≡ b → has q (cond (not b) (e ∷ removed k m) (removed k m)) ≡ has q (e ∷ m)) [
        | true ↦ λ is. has_removed_other q k m ne ∙ ap (λ (b : Bool). is_some (cond b (Some e.1) (at q m))) (sym (other_eq e.0 q (λ s. ne (sym (eq_same e.0 k is) ∙ s))))
        | false ↦ λ is. below (e.0 == q) (at q (removed k m)) (at q m) (has_removed_other q k m ne)
      ] refl
    where
      below : (b : Bool) (o o' : Option X) → is_some o ≡ is_some o' → is_some (cond b (Some e.1) o) ≡ is_some (cond b (Some e.1) o')
      below true o o' s = refl
      below false o o' s = s

  pub has_put_same : (k : ℕ) (x : X) (m : List (ℕ × X)) → has k (put k x m) ≡ true
  has_put_same k x m = ap (λ (b : Bool). is_some (cond b (Some x) (at k (removed k m)))) (same_eq k k refl)

  pub has_put_other : (q k : ℕ) (x : X) (m : List (ℕ × X)) → k ≢ q → has q (put k x m) ≡ has q m
  has_put_other q k x m ne = ap (λ (b : Bool). is_some (cond b (Some x) (at q (removed k m)))) (other_eq k q ne) ∙ has_removed_other q k m ne

  pub length_removed : (k : ℕ) (m : List (ℕ × X)) → length (removed k m) ≤ length m
  length_removed k [] = omega arith
  length_removed k (e ∷ m) =
      elim (e.0 == k) as (λ b. length (cond (not b) (e ∷ removed k m) (removed k m)) ≤ length (e ∷ m)) [ true ↦ omega (arith, length_removed k m) | false ↦ omega (arith, length_removed k m) ]

  -- a key that is there is taken out
  pub length_taken : (k : ℕ) (m : List (ℕ × X)) → has k m ≡ true → length (removed k m) + 1 ≤ length m
  length_taken k [] e = absurd (true≢false (sym e))
  length_taken k (e ∷ m) h =
      elim (e.0 == k) as (λ b. is_some (cond b (Some e.1) (at k m)) ≡ true → length (cond (not b) (e ∷ removed k m) (removed k m)) + 1 ≤ length (e ∷ m)) [
        | true ↦ λ here. omega (arith, length_removed k m)
        | false ↦ λ there. omega (arith, length_taken k m there)
      ] h

-- what is written over slabs leaves their numbers
pub has_overlaid : (p : Shape) (a : ℕ) (w : List ℕ) (n : ℕ) (m : List (ℕ × Slab)) → has n (overlaid_slabs p a w m) ≡ has n m
has_overlaid p a w n [] = refl
has_overlaid p a w n (e ∷ m) = below _ e.1 (e.0 == n) (at n (overlaid_slabs p a w m)) (at n m) (has_overlaid p a w n m)
  where
    below : (x y : Slab) (b : Bool) (o o' : Option Slab) → is_some o ≡ is_some o' → is_some (cond b (Some x) o) ≡ is_some (cond b (Some y) o')
    below x y true o o' s = refl
    below x y false o o' s = s

-- and their canaries
pub canary_overlaid : (p : Shape) (a : ℕ) (w : List ℕ) (n : ℕ) (m : List (ℕ × Slab)) → option_map_or (λ (b : Slab). b.canary) (at n (overlaid_slabs p a w m)) 0 ≡ option_map_or (λ (b : Slab). b.canary) (at n m) 0
canary_overlaid p a w n [] = refl
canary_overlaid p a w n (e ∷ m) = below (e.0 == n) (at n (overlaid_slabs p a w m)) (at n m) (canary_overlaid p a w n m)
  where
    below : (b : Bool) (o o' : Option Slab) → option_map_or (λ (b : Slab). b.canary) o 0 ≡ option_map_or (λ (b : Slab). b.canary) o' 0
        → option_map_or (λ (b : Slab). b.canary) (cond b (Some (record { bytes = overlaid a w (slab_at p e.0) e.1.bytes; canary = e.1.canary })) o) 0 ≡ option_map_or (λ (b : Slab). b.canary) (cond b (Some e.1) o') 0
    below true o o' s = refl
    below false o o' s = s
