-- The table of blocks after a change, address by address, and the starts of the live ones.
use Rattle.std.proofs.Common.{◌≡◌, ℕ, ◌==◌, Bool, true, false, cond, List, [], Option, Some, None, sym, ◌∙◌, ap, subst, refl}
use Rattle.std.specs.Ordering.{nat_cmp}
use Rattle.std.specs.BTreeMap as tree
use Rattle.std.specs.Option.{IsSome}
use Rattle.std.specs.Map.{lookup}
use Rattle.std.specs.FinMap as map
use Rattle.std.specs.FinMap.{get-empty, get-insert, get-remove}
use Rattle.std.proofs.lemmas.Cmp.{nat_cmp_total}
use Rattle.hm_model.proofs.Lists.{same_eq}
use Rattle.hm_region_table.specs.declared.entry.Block.{Block as KeptBlock}
use Rattle.hm_region_table.specs.Table.{Blocks, Table}
use Rattle.hm_large.specs.BlockTable.{live_size, AreLive, Updates, FindsLast}
use Rattle.hm_large_rules.proofs.SizeMaps.{map_test}

-- ---- the table
pub nothing_there : (t : Table) → t.blocks ≡ map.empty → (q : ℕ) → map.get t.blocks q ≡ None
nothing_there t e q = ap (λ (m : Blocks). map.get m q) e ∙ get-empty nat_cmp q

pub inserted : (old new : Table) (a : ℕ) (b : KeptBlock) → new.blocks ≡ map.insert old.blocks a b → Updates old new a (Some b)
inserted old new a b e q =
    ap (λ (m : Blocks). map.get m q) e ∙ (get-insert nat_cmp_total old.blocks a b q ∙ ap (λ (t : Bool). cond t (Some b) (map.get old.blocks q)) (map_test q a))

pub taken_out : (old new : Table) (a : ℕ) → new.blocks ≡ map.remove old.blocks a → Updates old new a None
taken_out old new a e q =
    ap (λ (m : Blocks). map.get m q) e ∙ (get-remove nat_cmp_total old.blocks a q ∙ ap (λ (t : Bool). cond t None (map.get old.blocks q)) (map_test q a))

-- two changes at one address
pub again : (old mid new : Table) (a : ℕ) (x y : Option KeptBlock) → Updates old mid a x → Updates mid new a y → Updates old new a y
again old mid new a x y f g q = g q ∙ (ap (cond (a == q) y) (f q) ∙ shadowed (a == q))
  where
    shadowed : (t : Bool) → cond t y (cond t x (map.get old.blocks q)) ≡ cond t y (map.get old.blocks q)
    shadowed true = refl
    shadowed false = refl

-- what is at the address then
pub at_updated : (old new : Table) (a : ℕ) (x : Option KeptBlock) → Updates old new a x → map.get new.blocks a ≡ x
at_updated old new a x f = f a ∙ ap (λ (t : Bool). cond t x (map.get old.blocks a)) (same_eq a a refl)

-- ---- the starts of the live blocks
abbrev sizes : tree.BTreeMap ℕ ℕ → ℕ → Option ℕ
sizes live q = tree.get nat_cmp live q

pub live_changed : (old new : Table) (live after : tree.BTreeMap ℕ ℕ) (a : ℕ) (x : Option KeptBlock) → AreLive old.blocks live → Updates old new a x
    → ((q : ℕ) → sizes after q ≡ cond (a == q) (live_size x) (sizes live q)) → AreLive new.blocks after
live_changed old new live after a x h f g q =
    g q ∙ (ap (cond (a == q) (live_size x)) (h q) ∙ (by_test (a == q) ∙ sym (ap live_size (f q))))
  where
    by_test : (t : Bool) → cond t (live_size x) (live_size (map.get old.blocks q)) ≡ live_size (cond t x (map.get old.blocks q))
    by_test true = refl
    by_test false = refl

pub none_live : (t : Table) (live : tree.BTreeMap ℕ ℕ) → t.blocks ≡ map.empty → live.entries ≡ [] → AreLive t.blocks live
none_live t live e f q =
    ap (λ (es : List (ℕ × ℕ)). lookup (tree.is_at (nat_cmp q)) es) f ∙ sym (ap live_size (nothing_there t e q))

-- ---- a state that is live or in quarantine
pub live_of : (b : KeptBlock) (size : ℕ) → b.quarantined ≡ false → b.size ≡ size → live_size (Some b) ≡ Some size
live_of b size live e = ap (λ (t : Bool). cond t None (Some b.size)) live ∙ ap Some e

-- what is found by one map of sizes is found by another that agrees with it
pub last_alike : (f h : ℕ → Option ℕ) (addr : ℕ) (found : Option (ℕ × ℕ)) → ((q : ℕ) → f q ≡ h q) → FindsLast f addr found → FindsLast h addr found
last_alike f h addr None same none = λ q le. sym (same q) ∙ none q le
last_alike f h addr (Some e) same l = record {
  below = l.below;
  there = sym (same e.0) ∙ l.there;
  last = λ q le some. l.last q le (subst IsSome (sym (same q)) some);
}
