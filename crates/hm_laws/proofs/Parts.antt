-- The lists that the parts of an entry leave as they are.
use Rattle.std.proofs.Common.{◌≡◌, ◌≢◌, ℕ, List, [], ◌∷◌, Option, Some, None, is_some, ap, refl}
use Rattle.hm_model.specs.Maps.{has, removed}
use Rattle.hm_sizes.specs.declared.shape.Shape.{Shape}
use Rattle.hm_class_rules.specs.State.{State}
use Rattle.hm_class_rules.specs.Steps.{taken_new, opened, releases, unparks, retires, purges}
use Rattle.hm_class_rules.proofs.Whole.{at_removed}

-- ---- live slots
new_live : (p : Shape) (l : List ℕ) (s : State) → (taken_new p l s).live ≡ s.live
new_live p [] s = refl
new_live p (m ∷ ms) s = refl

pub opened_live : (p : Shape) (o canary : Option ℕ) (s : State) → (opened p o canary s).live ≡ s.live
opened_live p None canary s = refl
opened_live p (Some n) canary s = new_live p s.shut s

pub released_live : (o : Option ℕ) (s : State) → (releases o s).live ≡ s.live
released_live None s = refl
released_live (Some b) s = refl

pub out_live : (p : Shape) (s : State) (r q u : Option ℕ) → (purges p q (retires r (unparks u s))).live ≡ s.live
out_live p s None None None = refl
out_live p s None None (Some u) = refl
out_live p s None (Some q) None = refl
out_live p s None (Some q) (Some u) = refl
out_live p s (Some r) None None = refl
out_live p s (Some r) None (Some u) = refl
out_live p s (Some r) (Some q) None = refl
out_live p s (Some r) (Some q) (Some u) = refl

-- ---- keys
module _ {X : Type 0} where
  pub has_removed : (k m : ℕ) (l : List (ℕ × X)) → k ≢ m → has m (removed k l) ≡ has m l
  has_removed k m l ne = ap (λ (o : Option X). is_some o) (at_removed k m l ne)
