-- Lists of blocks: what they cover, what they have at an address, and what is left without one.
use Rattle.std.proofs.Common.{◌≡◌, ◌≢◌, ℕ, suc, ◌+◌, ◌*◌, ◌≤◌, ◌==◌, Bool, true, false, cond, not, List, [], ◌∷◌, map, length, Some, None, option_map, refl, sym, ap, ◌∙◌, subst, arith}
use Rattle.std.proofs.lemmas.Option.{none-some, same_Some}
use Rattle.std.proofs.lemmas.Bool.{and_from, le-leb, lt-ltb}
use Rattle.hm_model.specs.Maps.{times, at, removed, keys}
use Rattle.hm_model.proofs.Lists.{other_eq, eq_same}
use Rattle.hm_model.proofs.Overlaid.{length_overlaid}
use Rattle.hm_sizes.specs.declared.config.Config.{Config}
use Rattle.hm_large_rules.specs.State.{Block, Blocks, covers, how_many, covered}
use Rattle.hm_large_rules.specs.Bytes.{overlay}
use Rattle.hm_large_rules.specs.Steps.{mark, marked}
use Rattle.hm_large_rules.specs.Laws.{IsInSpace, AreInSpace}

-- what an answer counts for
abbrev pub weight : Bool → ℕ
weight b = cond b 1 0

-- ---- without a block
pub removed_none : (a : ℕ) (m : Blocks) → times a (keys m) ≡ 0 → removed a m ≡ m
removed_none a [] e = refl
removed_none a (x ∷ m) e =
    elim (x.0 == a) as (λ b. cond b 1 0 + times a (keys m) ≡ 0 → cond (not b) (x ∷ removed a m) (removed a m) ≡ x ∷ m) [
      | true ↦ λ h. absurd (omega arith)
      | false ↦ λ h. ap (λ l. x ∷ l) (removed_none a m (omega arith))
    ] e

-- a block that is taken out was counted once
pub how_many_removed : (test : ℕ × Block → Bool) (a : ℕ) (x : Block) (m : Blocks) → at a m ≡ Some x → times a (keys m) ≤ 1 → how_many test (removed a m) + cond (test (a, x)) 1 0 ≡ how_many test m
how_many_removed test a x [] e once = absurd (none-some x e)
how_many_removed test a x (y ∷ m) e once =
    elim (y.0 == a) as (λ b. (y.0 == a) ≡ b → cond b (Some y.1) (at a m) ≡ Some x → cond b 1 0 + times a (keys m) ≤ 1
    → how_many test (cond (not b) (y ∷ removed a m) (removed a m)) + cond (test (a, x)) 1 0 ≡ how_many test (y ∷ m)) [
      | true ↦ λ is h u. here (eq_same y.0 a is) (same_Some y.1 x h) (omega arith)
      | false ↦ λ is h u. omega (arith, how_many_removed test a x m h (omega arith))
    ] refl e once
  where
    here : y.0 ≡ a → y.1 ≡ x → times a (keys m) ≡ 0 → how_many test (removed a m) + cond (test (a, x)) 1 0 ≡ how_many test (y ∷ m)
    here p q none =
        let same : (a, x) ≡ y = λ i. (sym p i, sym q i) in
        let left : how_many test (removed a m) ≡ how_many test m = ap (how_many test) (removed_none a m none) in
        let one : weight (test (a, x)) ≡ weight (test y) = ap (λ e. weight (test e)) same in
        omega (arith, left, one)

pub at_removed : (q a : ℕ) (m : Blocks) → a ≢ q → at q (removed a m) ≡ at q m
at_removed q a [] ne = refl
at_removed q a (y ∷ m) ne =
    elim (y.0 == a) as (λ b. (y.0 == a) ≡ b → at q (cond (not b) (y ∷ removed a m) (removed a m)) ≡ at q (y ∷ m)) [
      | true ↦ λ is. at_removed q a m ne ∙ sym (ap (λ b. cond b (Some y.1) (at q m)) (other_eq y.0 q (λ e. ne (sym (eq_same y.0 a is) ∙ e))))
      | false ↦ λ is. ap (λ o. cond (y.0 == q) (Some y.1) o) (at_removed q a m ne)
    ] refl

pub at_removed_same : (a : ℕ) (m : Blocks) → at a (removed a m) ≡ None
at_removed_same a [] = refl
at_removed_same a (y ∷ m) =
    elim (y.0 == a) as (λ b. (y.0 == a) ≡ b → at a (cond (not b) (y ∷ removed a m) (removed a m)) ≡ None) [
      | true ↦ λ is. at_removed_same a m
      | false ↦ λ is. ap (λ b. cond b (Some y.1) (at a (removed a m))) is ∙ at_removed_same a m
    ] refl

pub length_removed : (a : ℕ) (x : Block) (m : Blocks) → at a m ≡ Some x → times a (keys m) ≤ 1 → length (removed a m) + 1 ≡ length m
length_removed a x m e once = omega (arith, how_many_removed (λ _. true) a x m e once, all (removed a m), all m)
  where
    all : (m : Blocks) → how_many (λ _. true) m ≡ length m
    all [] = refl
    all (y ∷ m) = omega (arith, all m)

-- ---- what blocks cover
pub covers_own : (c : Config) (e : ℕ × Block) → IsInSpace c e → covers e.0 e ≡ true
covers_own c e h = and_from _ _ (le-leb e.0 (e.0 + 4096 * e.1.guard) (omega arith)) (lt-ltb e.0 (e.0 + e.1.size + 4096 * e.1.guard) (omega (arith, h.some)))

pub at_covered : (q a : ℕ) (x : Block) (m : Blocks) → at a m ≡ Some x → covers q (a, x) ≡ true → 1 ≤ covered q m
at_covered q a x [] e h = absurd (none-some x e)
at_covered q a x (y ∷ m) e h =
    elim (y.0 == a) as (λ b. (y.0 == a) ≡ b → cond b (Some y.1) (at a m) ≡ Some x → 1 ≤ covered q (y ∷ m)) [
      | true ↦ λ is f. here (eq_same y.0 a is) (same_Some y.1 x f)
      | false ↦ λ is f. omega (arith, at_covered q a x m f h)
    ] refl e
  where
    here : y.0 ≡ a → y.1 ≡ x → 1 ≤ covered q (y ∷ m)
    here p r =
        let same : (a, x) ≡ y = λ i. (sym p i, sym r i) in
        let one : weight (covers q y) ≡ 1 = ap weight (sym (ap (covers q) same) ∙ h) in
        omega (arith, one)

-- an address is a key at most as often as it is covered
pub times_covered : (c : Config) (a : ℕ) (m : Blocks) → AreInSpace c m → times a (keys m) ≤ covered a m
times_covered c a [] h = omega arith
times_covered c a (y ∷ m) h =
    elim (y.0 == a) as (λ b. (y.0 == a) ≡ b → cond b 1 0 + times a (keys m) ≤ covered a (y ∷ m)) [
      | true ↦ λ is. here (eq_same y.0 a is) (times_covered c a m h.1)
      | false ↦ λ is. omega (arith, times_covered c a m h.1)
    ] refl
  where
    here : y.0 ≡ a → times a (keys m) ≤ covered a m → 1 + times a (keys m) ≤ covered a (y ∷ m)
    here p rest =
        let own : covers a y ≡ true = subst (λ (q : ℕ). covers q y ≡ true) p (covers_own c y h.0) in
        let one : weight (covers a y) ≡ 1 = ap weight own in
        omega (arith, one, rest)

pub in_space_at : (c : Config) (a : ℕ) (x : Block) (m : Blocks) → AreInSpace c m → at a m ≡ Some x → IsInSpace c (a, x)
in_space_at c a x [] h e = absurd (none-some x e)
in_space_at c a x (y ∷ m) h e =
    elim (y.0 == a) as (λ b. (y.0 == a) ≡ b → cond b (Some y.1) (at a m) ≡ Some x → IsInSpace c (a, x)) [
      | true ↦ λ is f. (let same : y ≡ (a, x) = λ i. (eq_same y.0 a is i, same_Some y.1 x f i) in subst (IsInSpace c) same h.0)
      | false ↦ λ is f. in_space_at c a x m h.1 f
    ] refl e

pub placed_removed : (c : Config) (a : ℕ) (m : Blocks) → AreInSpace c m → AreInSpace c (removed a m)
placed_removed c a [] h = tt
placed_removed c a (y ∷ m) h =
    elim (y.0 == a) as (λ b. AreInSpace c (cond (not b) (y ∷ removed a m) (removed a m))) [ true ↦ placed_removed c a m h.1 | false ↦ (h.0, placed_removed c a m h.1) ]

-- ---- blocks that stay where they are
-- each block is changed, but for its size and guard
pub how_many_same : (test : ℕ × Block → Bool) (f : ℕ × Block → ℕ × Block) → ((e : ℕ × Block) → test (f e) ≡ test e) → (m : Blocks) → how_many test (map f m) ≡ how_many test m
how_many_same test f same [] = refl
how_many_same test f same (y ∷ m) = ap (λ b. cond b 1 0 + how_many test (map f m)) (same y) ∙ ap (λ n. cond (test y) 1 0 + n) (how_many_same test f same m)

pub length_same : (f : ℕ × Block → ℕ × Block) (m : Blocks) → length (map f m) ≡ length m
length_same f [] = refl
length_same f (y ∷ m) = ap suc (length_same f m)

pub placed_same : (c : Config) (f : ℕ × Block → ℕ × Block) → ((e : ℕ × Block) → IsInSpace c e → IsInSpace c (f e)) → (m : Blocks) → AreInSpace c m → AreInSpace c (map f m)
placed_same c f keep [] h = tt
placed_same c f keep (y ∷ m) h = (keep y h.0, placed_same c f keep m h.1)

pub placed_overlay : (c : Config) (a : ℕ) (w : List ℕ) (e : ℕ × Block) → IsInSpace c e → IsInSpace c (overlay a w e)
placed_overlay c a w e h = record { from = h.from; to = h.to; aligned = h.aligned; some = h.some; pages = h.pages; most = h.most; whole = length_overlaid a w e.0 e.1.bytes ∙ h.whole }

pub placed_mark : (c : Config) (a : ℕ) (e : ℕ × Block) → IsInSpace c e → IsInSpace c (mark a e)
placed_mark c a e h = record { from = h.from; to = h.to; aligned = h.aligned; some = h.some; pages = h.pages; most = h.most; whole = h.whole }

-- ---- a mark
-- it changes only whether a page fault occurred
pub at_marked : (q a : ℕ) (m : Blocks) → at q (marked a m) ≡ option_map (λ (b : Block). (mark a (q, b)).1) (at q m)
at_marked q a [] = refl
at_marked q a (y ∷ m) =
    elim (y.0 == q) as (λ t. (y.0 == q) ≡ t → cond t (Some (mark a y).1) (at q (marked a m)) ≡ option_map (λ (b : Block). (mark a (q, b)).1) (cond t (Some y.1) (at q m))) [
      | true ↦ λ is. (let e : y.0 ≡ q = eq_same y.0 q is in ap (λ k. Some (mark a (k, y.1)).1) e)
      | false ↦ λ is. at_marked q a m
    ] refl
