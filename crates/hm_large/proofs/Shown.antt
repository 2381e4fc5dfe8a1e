-- The store after a change says what the state after it says.
use Rattle.std.proofs.Common.{◌≡◌, ⊎_elim, ℕ, ◌+◌, ◌-◌, ◌*◌, ◌≤◌, ◌↔◌, ◌==◌, Bool, true, false, cond, not, List, [], ◌∷◌, ◌||◌, Option, Some, None, option_map, sym, ◌∙◌, ap, subst, refl, arith}
use Rattle.std.specs.FinMap as map
use Rattle.std.proofs.lemmas.Bool.{cases_eq, cases_Bool}
use Rattle.std.proofs.lemmas.Option.{none-some, same_Some}
use Rattle.hm_model.specs.Maps.{at, keys, times}
use Rattle.hm_model.proofs.Lists.{same_eq, other_eq}
use Rattle.hm_space.specs.Ranges.{IsWithin, IsInSome}
use Rattle.hm_space.specs.Space.{FreeSpace, IsFree, TakesRange}
use Rattle.hm_sizes.specs.declared.config.Config.{Config}
use Rattle.hm_large.specs.declared.store.Store.{Store}
use Rattle.hm_large_rules.specs.State.{Block, Blocks, covers, spans, owed, in_space, taken, State, IsOpen}
use Rattle.hm_large_rules.specs.Steps.{mark, marked}
use Rattle.hm_large_rules.specs.Laws.{IsSound}
use Rattle.hm_large_rules.specs.Draws.{stream_after}
use Rattle.hm_large.specs.Kept.{kept_of, kept_or, kept_at, Shows}
use Rattle.hm_large.specs.Gives.{SameStore}
use Rattle.hm_large.proofs.Addresses.{FreeIsOpen, within_spans, spans_within}
use Rattle.hm_large_rules.proofs.BlockLists.{at_marked, weight, how_many_same, length_same}
use Rattle.hm_large_rules.proofs.Legal.{live_once}

pub shows_same : (c : Config) (n : ℕ) (s : State) (k new : Store) (words : ℕ) → Shows c n s k → SameStore k new → new.words ≡ stream_after n words → Shows c n (record s { words = words }) new
shows_same c n s k new words h same drawn = record {
  blocks = λ a. same.blocks a ∙ h.blocks a;
  space = λ q. subst (λ (l : List _). IsInSome l q ↔ IsOpen c s q) (sym same.ranges) (h.space q);
  out = same.out ∙ h.out;
  quarantine = same.quarantine ∙ h.quarantine;
  words = drawn;
  owed_is = same.owed_same ∙ h.owed_is;
  quarantined_are = h.quarantined_are;
  indices = h.indices;
  new = h.new;
}

-- what the store is once a block was put in
pub record Gives (old new : Store) (a asked size guard : ℕ) : Type 0 where
  pub blocks : (q : ℕ) → map.get new.blocks.blocks q ≡ cond (a == q) (Some (record { asked = asked; size = size; guard = guard; quarantined = false; failed = false })) (map.get old.blocks.blocks q)
  pub space : (q : ℕ) → IsFree new.space q ↔ (IsFree old.space q × (IsWithin (a - 4096 * guard) (size + 2 * (4096 * guard)) q → ⊥))
  pub out : new.space.out ≡ old.space.out + 1
  pub quarantine : new.quarantine ≡ old.quarantine
  pub owed_more : new.owed ≡ old.owed + 1

-- a range that is taken out is that of a new block
pub open_given : (c : Config) (s : State) (old new : FreeSpace) (a words : ℕ) (x : Block) → 4096 * x.guard ≤ a → ((q : ℕ) → spans a x.size x.guard q ≡ true → taken s q ≡ 0) → FreeIsOpen c s old
    → TakesRange old new (a - 4096 * x.guard) (x.size + 2 * (4096 * x.guard)) → FreeIsOpen c (record s { live = (a, x) ∷ s.live; words = words }) new
open_given c s old new a words x low clear free takes q = (λ f. to ((takes q).0 f), λ o. (takes q).1 (from o))
  where
    back : a - 4096 * x.guard + 4096 * x.guard ≡ a
    back = omega arith

    to : IsFree old q × (IsWithin (a - 4096 * x.guard) (x.size + 2 * (4096 * x.guard)) q → ⊥) → (in_space c q ≡ true) × (taken (record s { live = (a, x) ∷ s.live; words = words }) q ≡ 0)
    to h = ⊎_elim (λ e. absurd (h.1 (spans_within a x.size x.guard (a - 4096 * x.guard) (x.size + 2 * (4096 * x.guard)) q refl back e))) (λ e. (((free q).0 h.0).0, omega (arith, ap weight e, ((free q).0 h.0).1))) (cases_Bool (spans a x.size x.guard q))

    from : (in_space c q ≡ true) × (taken (record s { live = (a, x) ∷ s.live; words = words }) q ≡ 0) → IsFree old q × (IsWithin (a - 4096 * x.guard) (x.size + 2 * (4096 * x.guard)) q → ⊥)
    from o = ((free q).1 (o.0, omega (arith, o.1)), λ w. (let e = within_spans a x.size x.guard (a - 4096 * x.guard) (x.size + 2 * (4096 * x.guard)) q refl back w in omega (arith, ap weight e, o.1)))

pub shows_given : (c : Config) (n : ℕ) (s : State) (k new : Store) (a words : ℕ) (x : Block) → x.failed ≡ false → 4096 * x.guard ≤ a → ((q : ℕ) → spans a x.size x.guard q ≡ true → taken s q ≡ 0)
    → Shows c n s k → Gives k new a x.asked x.size x.guard → new.words ≡ stream_after n words → Shows c n (record s { live = (a, x) ∷ s.live; words = words }) new
shows_given c n s k new a words x fresh low clear h gives drawn = record {
  blocks = λ q. gives.blocks q ∙ (ap (λ o. cond (a == q) (Some (record { asked = x.asked; size = x.size; guard = x.guard; quarantined = false; failed = false })) o) (h.blocks q) ∙ (ap (λ f. cond (a == q) (Some (record { asked = x.asked; size = x.size; guard = x.guard; quarantined = false; failed = f })) (kept_at s q)) (sym fresh) ∙ pushed (a == q) q));
  space = open_given c s k.space new.space a words x low clear h.space gives.space;
  out = omega (arith, gives.out, h.out);
  quarantine = gives.quarantine ∙ h.quarantine;
  words = drawn;
  owed_is = gives.owed_more ∙ (omega (arith, h.owed_is, owed_one));
  quarantined_are = h.quarantined_are;
  indices = h.indices;
  new = h.new;
}
  where
    pushed : (t : Bool) (q : ℕ) → cond t (Some (kept_of false x)) (kept_at s q) ≡ kept_or (cond t (Some x) (at q s.live)) (at q s.quarantined)
    pushed true q = refl
    pushed false q = refl

    owed_one : owed ((a, x) ∷ s.live) ≡ 1 + owed s.live
    owed_one = ap (λ f. weight (not f) + owed s.live) fresh

-- ---- a page fault occurred as the block at a was to be taken back
marked_none : (a : ℕ) (m : Blocks) → times a (keys m) ≡ 0 → marked a m ≡ m
marked_none a [] e = refl
marked_none a (y ∷ m) e =
    elim (y.0 == a) as (λ t. (y.0 == a) ≡ t → weight t + times a (keys m) ≡ 0 → mark a y ∷ marked a m ≡ y ∷ m) [
      | true ↦ λ is h. absurd (omega arith)
      | false ↦ λ is h. ap (λ t. (y.0, record y.1 { failed = t || y.1.failed }) ∷ marked a m) is ∙ ap (λ l. y ∷ l) (marked_none a m (omega arith))
    ] refl e

owed_marked : (a : ℕ) (x : Block) (m : Blocks) → at a m ≡ Some x → times a (keys m) ≤ 1 → owed (marked a m) + cond x.failed 0 1 ≡ owed m
owed_marked a x [] e once = absurd (none-some x e)
owed_marked a x (y ∷ m) e once =
    elim (y.0 == a) as (λ t. (y.0 == a) ≡ t → cond t (Some y.1) (at a m) ≡ Some x → weight t + times a (keys m) ≤ 1
    → (weight (not (t || y.1.failed)) + owed (marked a m)) + cond x.failed 0 1 ≡ weight (not y.1.failed) + owed m) [
      | true ↦ λ is h u. here y.1.failed (ap (λ (b : Block). b.failed) (same_Some y.1 x h)) (ap owed (marked_none a m (omega arith)))
      | false ↦ λ is h u. omega (arith, owed_marked a x m h (omega arith))
    ] refl e once
  where
    here : (f : Bool) → f ≡ x.failed → owed (marked a m) ≡ owed m → (0 + owed (marked a m)) + cond x.failed 0 1 ≡ weight (not f) + owed m
    here f e same = by_flag f (ap unweight (sym e)) same
      where
        unweight : Bool → ℕ
        unweight t = cond t 0 1

        by_flag : (f : Bool) → cond x.failed 0 1 ≡ unweight f → owed (marked a m) ≡ owed m → (0 + owed (marked a m)) + cond x.failed 0 1 ≡ weight (not f) + owed m
        by_flag true w same = omega arith
        by_flag false w same = omega arith

kept_marked : (s : State) (a q : ℕ) (x : Block) → at a s.live ≡ Some x → kept_or (at q (marked a s.live)) (at q s.quarantined) ≡ cond (a == q) (Some (record (kept_of false x) { failed = true })) (kept_at s q)
kept_marked s a q x e = ap (λ (o : Option Block). kept_or o (at q s.quarantined)) (at_marked q a s.live) ∙ ⊎_elim here there (cases_eq a q)
  where
    here : a ≡ q → kept_or (option_map (λ (b : Block). (mark a (q, b)).1) (at q s.live)) (at q s.quarantined) ≡ cond (a == q) (Some (record (kept_of false x) { failed = true })) (kept_at s q)
    here same =
        ap (λ (o : Option Block). kept_or (option_map (λ (b : Block). (mark a (q, b)).1) o) (at q s.quarantined)) (subst (λ (k : ℕ). at k s.live ≡ Some x) same e)
        ∙ (ap (λ t. Some (record (kept_of false x) { failed = t || x.failed })) (same_eq q a (sym same)) ∙ sym (ap (λ t. cond t (Some (record (kept_of false x) { failed = true })) (kept_at s q)) (same_eq a q same)))

    unmarked : (q == a) ≡ false → (live : Option Block) → kept_or (option_map (λ (b : Block). (mark a (q, b)).1) live) (at q s.quarantined) ≡ kept_or live (at q s.quarantined)
    unmarked other None = refl
    unmarked other (Some b) = ap (λ t. Some (record (kept_of false b) { failed = t || b.failed })) other

    there : (a ≡ q → ⊥) → kept_or (option_map (λ (b : Block). (mark a (q, b)).1) (at q s.live)) (at q s.quarantined) ≡ cond (a == q) (Some (record (kept_of false x) { failed = true })) (kept_at s q)
    there ne = unmarked (other_eq q a (λ e. ne (sym e))) (at q s.live) ∙ sym (ap (λ t. cond t (Some (record (kept_of false x) { failed = true })) (kept_at s q)) (other_eq a q ne))

pub shows_marked : (c : Config) (n : ℕ) (s : State) (k new : Store) (a : ℕ) (x : Block) → IsSound c s → at a s.live ≡ Some x → Shows c n s k
    → ((q : ℕ) → map.get new.blocks.blocks q ≡ cond (a == q) (Some (record (kept_of false x) { failed = true })) (map.get k.blocks.blocks q))
    → new.space ≡ k.space → new.quarantine ≡ k.quarantine → new.words ≡ k.words → new.owed + cond x.failed 0 1 ≡ k.owed → Shows c n (record s { live = marked a s.live }) new
shows_marked c n s k new a x sound e h blocks space quarantine words less = record {
  blocks = λ q. blocks q ∙ (ap (λ o. cond (a == q) (Some (record (kept_of false x) { failed = true })) o) (h.blocks q) ∙ sym (kept_marked s a q x e));
  space = λ q. (let same = how_many_same (covers q) (mark a) (λ e. refl) s.live in
      subst (λ (z : FreeSpace). IsFree z q ↔ IsOpen c (record s { live = marked a s.live }) q) (sym space) ((λ f. (((h.space q).0 f).0, omega (arith, ((h.space q).0 f).1, same))), (λ o. (h.space q).1 (o.0, omega (arith, o.1, same)))));
  out = ap (λ (z : FreeSpace). z.out) space ∙ omega (arith, h.out, length_same (mark a) s.live);
  quarantine = quarantine ∙ h.quarantine;
  words = words ∙ h.words;
  owed_is = omega (arith, less, h.owed_is, owed_marked a x s.live e (live_once c s a sound));
  quarantined_are = h.quarantined_are;
  indices = h.indices;
  new = h.new;
}
