-- The table and the runs after a change, address by address.
use Rattle.std.proofs.Common.{◌≡◌, ◌⊎◌, ⊎_elim, ℕ, ◌+◌, ◌≤◌, ◌==◌, Bool, true, false, cond, List, ◌∷◌, length, Option, Some, None, option_map, sym, ◌∙◌, ap, subst, refl}
use Rattle.std.specs.FinMap as finite
use Rattle.std.specs.FinMap.{get-insert, get-remove}
use Rattle.std.proofs.lemmas.Bool.{cases_eq}
use Rattle.std.proofs.lemmas.Cmp.{nat_cmp_total}
use Rattle.std.proofs.lemmas.Option.{none-some, same_Some}
use Rattle.hm_model.specs.Maps.{at, removed}
use Rattle.hm_model.proofs.Lists.{same_eq, other_eq}
use Rattle.hm_outside.specs.PageRuns.{PageRuns, MeetsNone}
use Rattle.hm_sizes.specs.declared.config.Config.{Config}
use Rattle.hm_large_rules.specs.State.{Block, Blocks, State}
use Rattle.hm_large_rules.specs.Steps.{mark, marked}
use Rattle.hm_large_rules.specs.Rules.{IsCandidate}
use Rattle.hm_large_rules.specs.Laws.{IsSound}
use Rattle.hm_large.specs.Region.{HoldsBlocks}
use Rattle.hm_large_rules.proofs.BlockLists.{in_space_at, at_removed, at_removed_same, at_marked}
use Rattle.hm_large_rules.proofs.Candidates.{not_live, bytes_apart}
use Rattle.hm_large_rules.proofs.SizeMaps.{map_test}

-- ---- the runs
-- a new run is that of a new block
pub holds_given : (live : Blocks) (runs : PageRuns) (a : ℕ) (x : Block) → HoldsBlocks live runs → HoldsBlocks ((a, x) ∷ live) (finite.insert runs a x.bytes)
holds_given live runs a x h q =
    get-insert nat_cmp_total runs a x.bytes q ∙ (ap (λ (t : Bool). cond t (Some x.bytes) (finite.get runs q)) (map_test q a) ∙ (ap (λ o. cond (a == q) (Some x.bytes) o) (h q) ∙ pushed (a == q)))
  where
    pushed : (t : Bool) → cond t (Some x.bytes) (option_map (λ (b : Block). b.bytes) (at q live)) ≡ option_map (λ (b : Block). b.bytes) (cond t (Some x) (at q live))
    pushed true = refl
    pushed false = refl

pub holds_removed : (live : Blocks) (runs : PageRuns) (a : ℕ) → HoldsBlocks live runs → HoldsBlocks (removed a live) (finite.remove runs a)
holds_removed live runs a h q = ⊎_elim here there (cases_eq a q)
  where
    value : finite.get (finite.remove runs a) q ≡ cond (a == q) None (finite.get runs q)
    value = get-remove nat_cmp_total runs a q ∙ ap (λ (t : Bool). cond t None (finite.get runs q)) (map_test q a)

    here : a ≡ q → finite.get (finite.remove runs a) q ≡ option_map (λ (b : Block). b.bytes) (at q (removed a live))
    here e = value ∙ (ap (λ (t : Bool). cond t None (finite.get runs q)) (same_eq a q e) ∙ sym (ap (option_map (λ (b : Block). b.bytes)) (subst (λ (k : ℕ). at k (removed a live) ≡ None) e (at_removed_same a live))))

    there : (a ≡ q → ⊥) → finite.get (finite.remove runs a) q ≡ option_map (λ (b : Block). b.bytes) (at q (removed a live))
    there ne = value ∙ (ap (λ (t : Bool). cond t None (finite.get runs q)) (other_eq a q ne) ∙ (h q ∙ sym (ap (option_map (λ (b : Block). b.bytes)) (at_removed q a live ne))))

-- a mark changes no bytes
pub holds_marked : (live : Blocks) (runs : PageRuns) (a : ℕ) → HoldsBlocks live runs → HoldsBlocks (marked a live) runs
holds_marked live runs a h q = h q ∙ (kept (at q live) ∙ sym (ap (option_map (λ (b : Block). b.bytes)) (at_marked q a live)))
  where
    kept : (o : Option Block) → option_map (λ (b : Block). b.bytes) o ≡ option_map (λ (b : Block). b.bytes) (option_map (λ (b : Block). (mark a (q, b)).1) o)
    kept None = refl
    kept (Some b) = refl

-- ---- a new run meets none
module _ (c : Config) (s : State) (align size guard a : ℕ) where
  pub meets_none : (runs : PageRuns) → 1 ≤ size → IsSound c s → IsCandidate c s align size guard a → HoldsBlocks s.live runs → MeetsNone runs a size
  meets_none runs some h k holds = record {
    fresh = none (at a s.live) refl;
    apart = λ q b is. by_block q b (at q s.live) refl (sym (holds q) ∙ is);
  }
    where
      none : (o : Option Block) → at a s.live ≡ o → finite.get runs a ≡ None
      none None e = holds a ∙ ap (option_map (λ (b : Block). b.bytes)) e
      none (Some x) e = absurd (not_live c s align size guard a some h k x e)

      by_block : (q : ℕ) (b : List ℕ) (o : Option Block) → at q s.live ≡ o → option_map (λ (x : Block). x.bytes) (at q s.live) ≡ Some b → (q + length b ≤ a) ⊎ (a + size ≤ q)
      by_block q b None e f = absurd (none-some b (sym (ap (option_map (λ (x : Block). x.bytes)) e) ∙ f))
      by_block q b (Some x) e f =
          let same : x.bytes ≡ b = same_Some x.bytes b (sym (ap (option_map (λ (y : Block). y.bytes)) e) ∙ f) in
          let count : length b ≡ x.size = ap length (sym same) ∙ (in_space_at c q x s.live h.live e).whole in
          subst (λ (n : ℕ). (q + n ≤ a) ⊎ (a + size ≤ q)) (sym count) (bytes_apart c s align size guard a some h k q x e)
