-- The lists that the parts of an entry leave as they are.
use Rattle.std.proofs.Common.{◌≡◌, ℕ, false, List, [], ◌∷◌, ◌++◌, Option, Some, None, is_some, sym, ap, subst, refl}
use Rattle.hm_model.specs.declared.entry.Entry.{Entry}
use Rattle.hm_model.specs.declared.entry.Call.{Call}
use Rattle.hm_model.specs.declared.entry.Reply.{Reply}
use Rattle.hm_model.specs.Machine.{Legal, Legal_split, state_append}
use Rattle.hm_model.specs.Maps.{has, removed}
use Rattle.hm_sizes.specs.declared.shape.Shape.{Shape}
use Rattle.hm_class_rules.specs.State.{State, start}
use Rattle.hm_class_rules.specs.Steps.{taken_new, opened, releases, unparks, retires, purges, step}
use Rattle.hm_class_rules.specs.Rules.{Terms, Allows, Allowed, IsLegal, state}
use Rattle.hm_class_rules.proofs.Whole.{at_removed_same}

-- ---- an entry at its call and its reply
pub allows_call : (t : Terms) (s : State) (e : Entry) (call : Call) → Allowed t s e → e.call ≡ call → Allows t s e.faults_before e.faults_after e.choices call e.reply
allows_call t s e call allowed is = subst (λ (x : Call). Allows t s e.faults_before e.faults_after e.choices x e.reply) is allowed.allows

pub allows_at : (t : Terms) (s : State) (e : Entry) (call : Call) (reply : Reply) → Allowed t s e → e.call ≡ call → e.reply ≡ reply → Allows t s e.faults_before e.faults_after e.choices call reply
allows_at t s e call reply allowed is told = subst (λ (r : Reply). Allows t s e.faults_before e.faults_after e.choices call r) told (allows_call t s e call allowed is)

-- ---- histories
-- the last entry of a legal history, after one that stands in it
pub record Split (t : Terms) (before middle : List Entry) (x e : Entry) : Type 0 where
  pub first : Allowed t (state t before) x
  pub between : Legal (step t.shape) (Allowed t) (step t.shape (state t before) x) middle
  pub last : Allowed t (state t (before ++ (x ∷ middle))) e

pub split : (t : Terms) (before middle : List Entry) (x e : Entry) → IsLegal t (before ++ (x ∷ (middle ++ (e ∷ [])))) → Split t before middle x e
split t before middle x e legal =
    let p₀ = Legal_split (step t.shape) (Allowed t) start before (x ∷ (middle ++ (e ∷ []))) legal in
    let p₁ = Legal_split (step t.shape) (Allowed t) (step t.shape (state t before) x) middle (e ∷ []) p₀.1.1 in
    record {
      first = p₀.1.0;
      between = p₁.0;
      last = subst (λ (s : State). Allowed t s e) (sym (state_append (step t.shape) (Allowed t) start before (x ∷ middle))) p₁.1.0;
    }

-- ---- live slots
new_given : (p : Shape) (l : List ℕ) (s : State) → (taken_new p l s).given ≡ s.given
new_given p [] s = refl
new_given p (m ∷ ms) s = refl

pub opened_given : (p : Shape) (o canary : Option ℕ) (s : State) → (opened p o canary s).given ≡ s.given
opened_given p None canary s = refl
opened_given p (Some n) canary s = new_given p s.shut s

pub released_live : (o : Option ℕ) (s : State) → (releases o s).live ≡ s.live
released_live None s = refl
released_live (Some b) s = refl

pub released_given : (o : Option ℕ) (s : State) → (releases o s).given ≡ s.given
released_given None s = refl
released_given (Some b) s = refl

pub out_given : (p : Shape) (s : State) (r q u : Option ℕ) → (purges p q (retires r (unparks u s))).given ≡ s.given
out_given p s None None None = refl
out_given p s None None (Some u) = refl
out_given p s None (Some q) None = refl
out_given p s None (Some q) (Some u) = refl
out_given p s (Some r) None None = refl
out_given p s (Some r) None (Some u) = refl
out_given p s (Some r) (Some q) None = refl
out_given p s (Some r) (Some q) (Some u) = refl

-- ---- keys
module _ {X : Type 0} where
  pub has_removed_same : (k : ℕ) (l : List (ℕ × X)) → has k (removed k l) ≡ false
  has_removed_same k l = ap (λ (o : Option X). is_some o) (at_removed_same k l)
