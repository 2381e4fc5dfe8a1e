-- The store once a block was taken back.
use Rattle.std.proofs.Common.{◌≡◌, ◌⊎◌, inl, inr, ⊎_elim, ℕ, suc, ◌+◌, ◌-◌, ◌*◌, ◌<◌, ◌≤◌, ◌↔◌, ◌==◌, Bool, true, false, cond, not, List, [], ◌∷◌, length, Option, Some, None, is_some, sym, ◌∙◌, ap, subst, refl, arith, true≢false}
use Rattle.std.specs.FinMap as map
use Rattle.std.specs.Bool.{MatchBool}
use Rattle.std.specs.Option.{IfSome}
use Rattle.std.proofs.lemmas.Bool.{cases_eq, cases_Bool}
use Rattle.std.proofs.lemmas.Option.{same_Some}
use Rattle.hm_base.specs.Members.{without_option}
use Rattle.hm_choice.specs.Stream.{Words, next_word, after_word, drawn}
use Rattle.hm_model.specs.Maps.{at, removed, keys, among}
use Rattle.hm_model.proofs.Lists.{same_eq, other_eq, keys_removed, has_keys}
use Rattle.hm_quarantine.specs.Delay.{quarantined, AreNew, IsDelayed}
use Rattle.hm_quarantine.specs.LookingBack.{Free, released, AreIndices, kept_after}
use Rattle.hm_quarantine.specs.Quarantine.{Kept, let_go, kept_with}
use Rattle.hm_quarantine.proofs.Ages.{delays, holds_few}
use Rattle.hm_quarantine.proofs.Passes.{looks_back}
use Rattle.hm_space.specs.Ranges.{IsWithin}
use Rattle.hm_space.specs.Space.{FreeSpace, IsFree, GivesRange}
use Rattle.hm_sizes.specs.declared.config.Config.{Config}
use Rattle.hm_sizes.specs.Configs.{IsValid}
use Rattle.hm_region_table.specs.declared.entry.Block.{Block as KeptBlock}
use Rattle.hm_large.specs.declared.store.Store.{Store}
use Rattle.hm_large_rules.specs.State.{Block, Blocks, is_quarantined, covers, covered, owed, is_owed, State, array_length, ring_length, taken, IsOpen}
use Rattle.hm_large_rules.specs.Steps.{takes_back, releases, free_at}
use Rattle.hm_large_rules.specs.Rules.{Releases}
use Rattle.hm_large_rules.specs.Laws.{IsInSpace, IsSound}
use Rattle.hm_large_rules.specs.Draws.{word_at}
use Rattle.hm_large.specs.Kept.{kept_of, kept_or, kept_at, Shows}
use Rattle.hm_large.specs.BlockTable.{Updates}
use Rattle.hm_large.specs.Frees.{GoesBack, GaveBack, Frees}
use Rattle.hm_large_rules.proofs.BlockLists.{weight, how_many_removed, at_covered, at_removed, at_removed_same, length_removed, in_space_at}
use Rattle.hm_large_rules.proofs.Legal.{live_once, quarantined_once, sound_takes_back}
use Rattle.hm_large_rules.proofs.Delay.{apart_keys}
use Rattle.hm_large.proofs.Addresses.{FreeIsOpen, in_space_from, within_spans, spans_within}

-- ---- a range that can be put back
module _ (c : Config) (s : State) (space : FreeSpace) (a : ℕ) (x : Block) where
  -- the block is one of those that are taken
  pub goes_back : (kept : Bool) → IsValid c → IsInSpace c (a, x) → FreeIsOpen c s space → 1 ≤ space.out → ((q : ℕ) → covers q (a, x) ≡ true → 1 ≤ taken s q) → GoesBack space a (kept_of kept x)
  goes_back kept valid placed free out taken_there = record {
    some = placed.some;
    most = placed.most;
    guard = omega (arith, placed.from, placed.to, valid.space_most);
    front = omega (arith, placed.from);
    below = omega (arith, placed.to, valid.space_most);
    apart = λ q w f. (let back : a - 4096 * x.guard + 4096 * x.guard ≡ a = omega (arith, placed.from) in
        omega (arith, ((free q).0 f).1, taken_there q (within_spans a x.size x.guard (a - 4096 * x.guard) (x.size + 2 * (4096 * x.guard)) q refl back w)));
    out = out;
  }

-- once it is back, just its addresses are open as well
pub open_back : (c : Config) (s after : State) (old new : FreeSpace) (a : ℕ) (x : Block) → IsInSpace c (a, x) → ((q : ℕ) → taken after q + weight (covers q (a, x)) ≡ taken s q) → ((q : ℕ) → taken s q ≤ 1)
    → FreeIsOpen c s old → GivesRange old new (a - 4096 * x.guard) (x.size + 2 * (4096 * x.guard)) → FreeIsOpen c after new
open_back c s after old new a x placed less once free gives q = (λ f. to ((gives q).0 f), λ o. (gives q).1 (from o (cases_Bool (covers q (a, x)))))
  where
    back : a - 4096 * x.guard + 4096 * x.guard ≡ a
    back = omega (arith, placed.from)

    to : IsFree old q ⊎ IsWithin (a - 4096 * x.guard) (x.size + 2 * (4096 * x.guard)) q → IsOpen c after q
    to (inl f) = (((free q).0 f).0, omega (arith, ((free q).0 f).1, less q))
    to (inr w) = (
      in_space_from c q (omega (arith, w.from, placed.from)) (omega (arith, w.below, placed.to, placed.from)),
      omega (arith, ap weight (within_spans a x.size x.guard (a - 4096 * x.guard) (x.size + 2 * (4096 * x.guard)) q refl back w), less q, once q),
    )

    from : IsOpen c after q → (covers q (a, x) ≡ true) ⊎ (covers q (a, x) ≡ false) → IsFree old q ⊎ IsWithin (a - 4096 * x.guard) (x.size + 2 * (4096 * x.guard)) q
    from o (inl e) = inr (spans_within a x.size x.guard (a - 4096 * x.guard) (x.size + 2 * (4096 * x.guard)) q refl back e)
    from o (inr e) = inl ((free q).1 (o.0, omega (arith, ap weight e, less q, o.1)))

-- ---- the table, the free ranges and the counts
pub record ShowsTable (c : Config) (s : State) (k : Store) : Type 0 where
  pub blocks_are : (a : ℕ) → map.get k.blocks.blocks a ≡ kept_at s a
  pub space_is : FreeIsOpen c s k.space
  pub out_is : k.space.out ≡ length s.live + length s.quarantined
  pub owed_are : k.owed ≡ owed s.live

-- what leaves the live blocks leaves the table
kept_without_live : (c : Config) (s : State) (a q : ℕ) (x : Block) → IsSound c s → at a s.live ≡ Some x → kept_or (at q (removed a s.live)) (at q s.quarantined) ≡ cond (a == q) None (kept_at s q)
kept_without_live c s a q x h e = ⊎_elim here there (cases_eq a q)
  where
    no_quarantined : (o : Option Block) → at a s.quarantined ≡ o → at a s.quarantined ≡ None
    no_quarantined None f = f
    no_quarantined (Some y) f = absurd (apart_keys c s a x y h e f)

    here : a ≡ q → kept_or (at q (removed a s.live)) (at q s.quarantined) ≡ cond (a == q) None (kept_at s q)
    here same =
        let live : at q (removed a s.live) ≡ None = subst (λ (k : ℕ). at k (removed a s.live) ≡ None) same (at_removed_same a s.live) in
        let quarantined' : at q s.quarantined ≡ None = subst (λ (k : ℕ). at k s.quarantined ≡ None) same (no_quarantined (at a s.quarantined) refl) in
        ap (λ (o : Option Block). kept_or o (at q s.quarantined)) live ∙ (ap (kept_or None) quarantined' ∙ sym (ap (λ t. cond t None (kept_at s q)) (same_eq a q same)))

    there : (a ≡ q → ⊥) → kept_or (at q (removed a s.live)) (at q s.quarantined) ≡ cond (a == q) None (kept_at s q)
    there ne = ap (λ (o : Option Block). kept_or o (at q s.quarantined)) (at_removed q a s.live ne) ∙ sym (ap (λ t. cond t None (kept_at s q)) (other_eq a q ne))

-- what goes from the live blocks into quarantine is marked
kept_quarantined : (c : Config) (s : State) (a q : ℕ) (x : Block) → kept_or (at q (removed a s.live)) (cond (a == q) (Some x) (at q s.quarantined)) ≡ cond (a == q) (Some (kept_of true x)) (kept_at s q)
kept_quarantined c s a q x = ⊎_elim here there (cases_eq a q)
  where
    here : a ≡ q → kept_or (at q (removed a s.live)) (cond (a == q) (Some x) (at q s.quarantined)) ≡ cond (a == q) (Some (kept_of true x)) (kept_at s q)
    here same =
        let live : at q (removed a s.live) ≡ None = subst (λ (k : ℕ). at k (removed a s.live) ≡ None) same (at_removed_same a s.live) in
        ap (λ (o : Option Block). kept_or o (cond (a == q) (Some x) (at q s.quarantined))) live
        ∙ (ap (λ t. kept_or None (cond t (Some x) (at q s.quarantined))) (same_eq a q same) ∙ sym (ap (λ t. cond t (Some (kept_of true x)) (kept_at s q)) (same_eq a q same)))

    there : (a ≡ q → ⊥) → kept_or (at q (removed a s.live)) (cond (a == q) (Some x) (at q s.quarantined)) ≡ cond (a == q) (Some (kept_of true x)) (kept_at s q)
    there ne = ap (λ (o : Option Block). kept_or o (cond (a == q) (Some x) (at q s.quarantined))) (at_removed q a s.live ne)
        ∙ (ap (λ t. kept_or (at q s.live) (cond t (Some x) (at q s.quarantined))) (other_eq a q ne) ∙ sym (ap (λ t. cond t (Some (kept_of true x)) (kept_at s q)) (other_eq a q ne)))

-- what leaves the quarantine leaves the table
kept_without_quarantined : (c : Config) (s : State) (b q : ℕ) (y : Block) → IsSound c s → at b s.quarantined ≡ Some y → kept_or (at q s.live) (at q (removed b s.quarantined)) ≡ cond (b == q) None (kept_at s q)
kept_without_quarantined c s b q y h e = ⊎_elim here there (cases_eq b q)
  where
    no_live : (o : Option Block) → at b s.live ≡ o → at b s.live ≡ None
    no_live None f = f
    no_live (Some x) f = absurd (apart_keys c s b x y h f e)

    here : b ≡ q → kept_or (at q s.live) (at q (removed b s.quarantined)) ≡ cond (b == q) None (kept_at s q)
    here same =
        let quarantined' : at q (removed b s.quarantined) ≡ None = subst (λ (k : ℕ). at k (removed b s.quarantined) ≡ None) same (at_removed_same b s.quarantined) in
        let live : at q s.live ≡ None = subst (λ (k : ℕ). at k s.live ≡ None) same (no_live (at b s.live) refl) in
        ap (λ (o : Option Block). kept_or o (at q (removed b s.quarantined))) live ∙ (ap (kept_or None) quarantined' ∙ sym (ap (λ t. cond t None (kept_at s q)) (same_eq b q same)))

    there : (b ≡ q → ⊥) → kept_or (at q s.live) (at q (removed b s.quarantined)) ≡ cond (b == q) None (kept_at s q)
    there ne = ap (kept_or (at q s.live)) (at_removed q b s.quarantined ne) ∙ sym (ap (λ t. cond t None (kept_at s q)) (other_eq b q ne))

-- the count of entries that are kept
owed_less : (n m : ℕ) (failed : Bool) → m + weight (not failed) ≡ n → n - cond failed 0 1 ≡ m
owed_less n m true e = omega arith
owed_less n m false e = omega arith

module _ (c : Config) (n : ℕ) (s : State) (k new : Store) (a : ℕ) (x : Block) where
  -- a greater block has left
  pub table_left : IsSound c s → at a s.live ≡ Some x → Shows c n s k → ((q : ℕ) → map.get new.blocks.blocks q ≡ cond (a == q) None (map.get k.blocks.blocks q))
      → GaveBack k.space new.space a (kept_of false x) → new.owed ≡ k.owed - cond x.failed 0 1 → ShowsTable c (record s { live = removed a s.live }) new
  table_left h e shows blocks gave less = record {
    blocks_are = λ q. blocks q ∙ (ap (λ o. cond (a == q) None o) (shows.blocks q) ∙ sym (kept_without_live c s a q x h e));
    space_is = open_back c s (record s { live = removed a s.live }) k.space new.space a x (in_space_at c a x s.live h.live e) (λ q. (let m = how_many_removed (covers q) a x s.live e (live_once c s a h) in omega (arith, m))) h.once shows.space gave.ranges;
    out_is = omega (arith, gave.out_less, shows.out, length_removed a x s.live e (live_once c s a h));
    owed_are = less ∙ (ap (λ m. m - cond x.failed 0 1) shows.owed_is ∙ owed_less (owed s.live) (owed (removed a s.live)) x.failed (how_many_removed is_owed a x s.live e (live_once c s a h)));
  }

  -- another is in quarantine
  pub table_quarantined : (frees : List Free) → IsSound c s → at a s.live ≡ Some x → Shows c n s k → ((q : ℕ) → map.get new.blocks.blocks q ≡ cond (a == q) (Some (kept_of true x)) (map.get k.blocks.blocks q))
      → new.space ≡ k.space → new.owed ≡ k.owed - cond x.failed 0 1 → ShowsTable c (record s { live = removed a s.live; quarantined = (a, x) ∷ s.quarantined; frees = frees }) new
  table_quarantined frees h e shows blocks same less = record {
    blocks_are = λ q. blocks q ∙ (ap (λ o. cond (a == q) (Some (kept_of true x)) o) (shows.blocks q) ∙ sym (kept_quarantined c s a q x));
    space_is = λ q. subst (λ (z : FreeSpace). IsFree z q ↔ IsOpen c (record s { live = removed a s.live; quarantined = (a, x) ∷ s.quarantined; frees = frees }) q) (sym same) ((λ f. (((shows.space q).0 f).0, omega (arith, ((shows.space q).0 f).1, moved q))), (λ o. (shows.space q).1 (o.0, omega (arith, o.1, moved q))));
    out_is = ap (λ (z : FreeSpace). z.out) same ∙ omega (arith, shows.out, length_removed a x s.live e (live_once c s a h));
    owed_are = less ∙ (ap (λ m. m - cond x.failed 0 1) shows.owed_is ∙ owed_less (owed s.live) (owed (removed a s.live)) x.failed (how_many_removed is_owed a x s.live e (live_once c s a h)));
  }
    where
      moved : (q : ℕ) → covered q (removed a s.live) + covered q ((a, x) ∷ s.quarantined) ≡ taken s q
      moved q = omega (arith, how_many_removed (covers q) a x s.live e (live_once c s a h))

-- what the quarantine let go has left
pub table_released : (c : Config) (s : State) (k new : Store) (b : ℕ) (y : Block) → IsSound c s → at b s.quarantined ≡ Some y → ShowsTable c s k
    → ((q : ℕ) → map.get new.blocks.blocks q ≡ cond (b == q) None (map.get k.blocks.blocks q)) → GaveBack k.space new.space b (kept_of true y) → new.owed ≡ k.owed
    → ShowsTable c (record s { quarantined = removed b s.quarantined }) new
table_released c s k new b y h e shows blocks gave same = record {
  blocks_are = λ q. blocks q ∙ (ap (λ o. cond (b == q) None o) (shows.blocks_are q) ∙ sym (kept_without_quarantined c s b q y h e));
  space_is = open_back c s (record s { quarantined = removed b s.quarantined }) k.space new.space b y (in_space_at c b y s.quarantined h.quarantined e) (λ q. (let m = how_many_removed (covers q) b y s.quarantined e (quarantined_once c s b h) in omega (arith, m))) h.once shows.space_is gave.ranges;
  out_is = omega (arith, gave.out_less, shows.out_is, length_removed b y s.quarantined e (quarantined_once c s b h));
  owed_are = same ∙ shows.owed_are;
}

-- ---- the quarantine
length_keys : (m : Blocks) → length (keys m) ≡ length m
length_keys [] = refl
length_keys (y ∷ m) = ap suc (length_keys m)

module _ (c : Config) (n : ℕ) (s : State) (k : Store) (a word : ℕ) (x : Block) where
  pub indices_more : Shows c n s k → drawn array_length word < array_length → AreIndices array_length (free_at a word ∷ s.frees)
  indices_more h lt = (lt, h.indices)

  pub new_more : IsSound c s → at a s.live ≡ Some x → Shows c n s k → AreNew array_length ring_length (free_at a word ∷ s.frees)
  new_more sound e h = (sym (ap (among a) h.quarantined_are) ∙ (sym (has_keys a s.quarantined) ∙ absent (at a s.quarantined) refl), h.new)
    where
      absent : (o : Option Block) → at a s.quarantined ≡ o → is_some (at a s.quarantined) ≡ false
      absent None f = ap is_some f
      absent (Some y) f = absurd (apart_keys c s a x y sound e f)

  pub keys_pushed : Shows c n s k → keys ((a, x) ∷ s.quarantined) ≡ a ∷ quarantined array_length ring_length s.frees
  keys_pushed h = ap (λ l. a ∷ l) h.quarantined_are

  -- what looking back finds may be released, and the blocks in quarantine are then those that it finds there
  pub release_ok : (r : Option ℕ) → IsSound c s → at a s.live ≡ Some x → Shows c n s k → drawn array_length word < array_length → released array_length ring_length s.frees (free_at a word) ≡ r
      → Releases (record s { live = removed a s.live; quarantined = (a, x) ∷ s.quarantined; frees = free_at a word ∷ s.frees }) r
      × (keys (releases r (record s { live = removed a s.live; quarantined = (a, x) ∷ s.quarantined; frees = free_at a word ∷ s.frees })).quarantined ≡ quarantined array_length ring_length (free_at a word ∷ s.frees))
  release_ok None sound e h lt is =
      let same : a ∷ quarantined array_length ring_length s.frees ≡ quarantined array_length ring_length (free_at a word ∷ s.frees) = sym (ap (λ o. without_option o (a ∷ quarantined array_length ring_length s.frees)) is) in
      let all = keys_pushed h ∙ same in
      let few = holds_few array_length ring_length (free_at a word ∷ s.frees) (indices_more h lt) (new_more sound e h) in
      (omega (arith, few, ap length all, length_keys ((a, x) ∷ s.quarantined)), all)
  release_ok (Some b) sound e h lt is =
      let same : without_option (Some b) (a ∷ quarantined array_length ring_length s.frees) ≡ quarantined array_length ring_length (free_at a word ∷ s.frees) = sym (ap (λ o. without_option o (a ∷ quarantined array_length ring_length s.frees)) is) in
      let all : keys (removed b ((a, x) ∷ s.quarantined)) ≡ quarantined array_length ring_length (free_at a word ∷ s.frees) = keys_removed b ((a, x) ∷ s.quarantined) ∙ (ap (without_option (Some b)) (keys_pushed h) ∙ same) in
      let few = holds_few array_length ring_length (free_at a word ∷ s.frees) (indices_more h lt) (new_more sound e h) in
      let delayed : IsDelayed array_length ring_length s.frees (free_at a word) b = subst (λ o. IfSome o (IsDelayed array_length ring_length s.frees (free_at a word))) is (delays array_length ring_length s.frees (free_at a word) (indices_more h lt) (new_more sound e h)) in
      ((has_keys b ((a, x) ∷ s.quarantined) ∙ (ap (among b) (keys_pushed h) ∙ delayed.was_quarantined), delayed.late, omega (arith, few, ap length all, length_keys (removed b ((a, x) ∷ s.quarantined)))), all)

-- ---- what a free leaves
abbrev nothing : Option ℕ
nothing = None

pub kept_live : (c : Config) (n : ℕ) (s : State) (k : Store) (a : ℕ) (x : Block) → Shows c n s k → at a s.live ≡ Some x → map.get k.blocks.blocks a ≡ Some (kept_of false x)
kept_live c n s k a x h e = h.blocks a ∙ ap (λ (o : Option Block). kept_or o (at a s.quarantined)) e

pub kept_quarantined_at : (c : Config) (s : State) (k : Store) (a : ℕ) (y : Block) → IsSound c s → ShowsTable c s k → at a s.quarantined ≡ Some y → map.get k.blocks.blocks a ≡ Some (kept_of true y)
kept_quarantined_at c s k a y sound h e = h.blocks_are a ∙ (ap (λ (o : Option Block). kept_or o (at a s.quarantined)) (no_live (at a s.live) refl) ∙ ap (kept_or None) e)
  where
    no_live : (o : Option Block) → at a s.live ≡ o → at a s.live ≡ None
    no_live None f = f
    no_live (Some x) f = absurd (apart_keys c s a x y sound f e)

-- the block that is kept is that of the state
pub same_block : (c : Config) (n : ℕ) (s : State) (k : Store) (a : ℕ) (x : Block) (b : KeptBlock) → Shows c n s k → at a s.live ≡ Some x → map.get k.blocks.blocks a ≡ Some b → b ≡ kept_of false x
same_block c n s k a x b h e is = same_Some b (kept_of false x) (sym is ∙ kept_live c n s k a x h e)

pub owed_some : (c : Config) (s : State) (a : ℕ) (x : Block) → IsSound c s → at a s.live ≡ Some x → x.failed ≡ false → 1 ≤ owed s.live
owed_some c s a x sound e fresh = omega (arith, how_many_removed is_owed a x s.live e (live_once c s a sound), ap (λ f. weight (not f)) fresh)

pub live_goes_back : (c : Config) (n : ℕ) (s : State) (k : Store) (a : ℕ) (x : Block) → IsValid c → IsSound c s → Shows c n s k → at a s.live ≡ Some x → IfSome (map.get k.blocks.blocks a) (GoesBack k.space a)
live_goes_back c n s k a x valid sound h e =
    subst (λ o. IfSome o (GoesBack k.space a)) (sym (kept_live c n s k a x h e))
    (goes_back c s k.space a x false valid (in_space_at c a x s.live sound.live e) h.space (omega (arith, h.out, length_removed a x s.live e (live_once c s a sound))) (λ q covers_q. omega (arith, at_covered q a x s.live e covers_q)))

pub quarantined_goes_back : (c : Config) (s : State) (k : Store) (b : ℕ) (y : Block) → IsValid c → IsSound c s → ShowsTable c s k → at b s.quarantined ≡ Some y → IfSome (map.get k.blocks.blocks b) (GoesBack k.space b)
quarantined_goes_back c s k b y valid sound h e =
    subst (λ o. IfSome o (GoesBack k.space b)) (sym (kept_quarantined_at c s k b y sound h e))
    (goes_back c s k.space b y true valid (in_space_at c b y s.quarantined sound.quarantined e) h.space_is (omega (arith, h.out_is, length_removed b y s.quarantined e (quarantined_once c s b sound))) (λ q covers_q. omega (arith, at_covered q b y s.quarantined e covers_q)))

module _ (c : Config) (n : ℕ) (s : State) (k new : Store) (a : ℕ) (x : Block) where
  -- a greater block draws no word and releases none
  pub frees_left : IsSound c s → at a s.live ≡ Some x → is_quarantined x ≡ false → Shows c n s k → ShowsTable c (record s { live = removed a s.live }) new → new.quarantine ≡ k.quarantine → new.words ≡ k.words
      → Frees c n s a x new (record { released = None; word = None })
  frees_left sound e great h table quarantine words =
      let same : takes_back a (word_at n s.words) (Some x) s ≡ record s { live = removed a s.live } =
      ap (λ t. cond t (record s { live = removed a s.live; quarantined = (a, x) ∷ s.quarantined; frees = free_at a (word_at n s.words) ∷ s.frees }) (record s { live = removed a s.live })) great in
      record {
        words = subst (λ t. MatchBool t ((nothing ≡ Some (word_at n s.words)) × (nothing ≡ released array_length ring_length s.frees (free_at a (word_at n s.words)))) ((nothing ≡ nothing) × (nothing ≡ nothing))) (sym great) (refl, refl);
        allowed = subst (λ t. MatchBool t (Releases (takes_back a (word_at n s.words) (Some x) s) nothing) (nothing ≡ nothing)) (sym great) refl;
        shows = subst (λ (z : State). Shows c n (record z { words = s.words }) new) (sym same) (record {
          blocks = table.blocks_are;
          space = table.space_is;
          out = table.out_is;
          quarantine = quarantine ∙ h.quarantine;
          words = words ∙ h.words;
          owed_is = table.owed_are;
          quarantined_are = h.quarantined_are;
          indices = h.indices;
          new = h.new;
        });
      }

  -- another is in quarantine, and what that let go has left
  pub frees_quarantined : (word index : ℕ) (r : Option ℕ) → IsSound c s → at a s.live ≡ Some x → is_quarantined x ≡ true → Shows c n s k → word ≡ next_word k.words → index ≡ drawn array_length word → index < array_length
      → r ≡ let_go k.quarantine a index → ShowsTable c (releases r (record s { live = removed a s.live; quarantined = (a, x) ∷ s.quarantined; frees = free_at a word ∷ s.frees })) new
      → new.quarantine ≡ kept_with k.quarantine a index → new.words ≡ after_word k.words → Frees c n s a x new (record { released = r; word = Some word })
  frees_quarantined word index r sound e small h drawn_word drawn_index lt left table quarantine words =
      let w : ℕ = word_at n s.words in
      let is_word : word ≡ w = drawn_word ∙ ap next_word h.words in
      let before : State = record s { live = removed a s.live; quarantined = (a, x) ∷ s.quarantined; frees = free_at a word ∷ s.frees } in
      let same : takes_back a w (Some x) s ≡ before =
      ap (λ t. cond t (record s { live = removed a s.live; quarantined = (a, x) ∷ s.quarantined; frees = free_at a w ∷ s.frees }) (record s { live = removed a s.live })) small
      ∙ ap (λ (z : ℕ). record s { live = removed a s.live; quarantined = (a, x) ∷ s.quarantined; frees = free_at a z ∷ s.frees }) (sym is_word) in
      let below : drawn array_length word < array_length = subst (λ (p : ℕ). p < array_length) drawn_index lt in
      let back : let_go k.quarantine a index ≡ released array_length ring_length s.frees (free_at a word) =
      ap (λ (z : Kept). let_go z a index) h.quarantine ∙ (ap (λ p. let_go (kept_after array_length ring_length s.frees) a p) drawn_index ∙ looks_back array_length ring_length s.frees (free_at a word) (indices_more c n s k a word x h below)) in
      let is : released array_length ring_length s.frees (free_at a word) ≡ r = sym (left ∙ back) in
      let ok = release_ok c n s k a word x r sound e h below is in
      record {
        words = subst (λ t. MatchBool t ((Some word ≡ Some w) × (r ≡ released array_length ring_length s.frees (free_at a w))) ((Some word ≡ None) × (r ≡ None))) (sym small)
            (ap Some is_word, left ∙ (back ∙ ap (λ z. released array_length ring_length s.frees (free_at a z)) is_word));
        allowed = subst (λ t. MatchBool t (Releases (takes_back a w (Some x) s) r) (r ≡ None)) (sym small) (subst (λ (z : State). Releases z r) (sym same) ok.0);
        shows = subst (λ (z : State). Shows c n (record (releases r z) { words = suc s.words }) new) (sym same) (shows_quarantined r is table ok.1);
      }
    where
      shows_quarantined : (r : Option ℕ) → released array_length ring_length s.frees (free_at a word) ≡ r → ShowsTable c (releases r (record s { live = removed a s.live; quarantined = (a, x) ∷ s.quarantined; frees = free_at a word ∷ s.frees })) new
          → keys (releases r (record s { live = removed a s.live; quarantined = (a, x) ∷ s.quarantined; frees = free_at a word ∷ s.frees })).quarantined ≡ quarantined array_length ring_length (free_at a word ∷ s.frees)
          → Shows c n (record (releases r (record s { live = removed a s.live; quarantined = (a, x) ∷ s.quarantined; frees = free_at a word ∷ s.frees })) { words = suc s.words }) new
      shows_quarantined None is table quarantined_is = record {
        blocks = table.blocks_are;
        space = table.space_is;
        out = table.out_is;
        quarantine = quarantine ∙ (ap (λ (z : Kept). kept_with z a index) h.quarantine ∙ ap (kept_with (kept_after array_length ring_length s.frees) a) drawn_index);
        words = words ∙ ap after_word h.words;
        owed_is = table.owed_are;
        quarantined_are = quarantined_is;
        indices = indices_more c n s k a word x h (subst (λ (p : ℕ). p < array_length) drawn_index lt);
        new = new_more c n s k a word x sound e h;
      }
      shows_quarantined (Some b) is table quarantined_is = record {
        blocks = table.blocks_are;
        space = table.space_is;
        out = table.out_is;
        quarantine = quarantine ∙ (ap (λ (z : Kept). kept_with z a index) h.quarantine ∙ ap (kept_with (kept_after array_length ring_length s.frees) a) drawn_index);
        words = words ∙ ap after_word h.words;
        owed_is = table.owed_are;
        quarantined_are = quarantined_is;
        indices = indices_more c n s k a word x h (subst (λ (p : ℕ). p < array_length) drawn_index lt);
        new = new_more c n s k a word x sound e h;
      }

-- the store with a block in quarantine, before that lets anything go
pub record Holds (old new : Store) (a : ℕ) (x : Block) (word index : ℕ) : Type 0 where
  pub blocks_are : (q : ℕ) → map.get new.blocks.blocks q ≡ cond (a == q) (Some (kept_of true x)) (map.get old.blocks.blocks q)
  pub space_same : new.space ≡ old.space
  pub owed_less : new.owed ≡ old.owed - cond x.failed 0 1
  pub quarantine_same : new.quarantine ≡ old.quarantine
  pub words_are : new.words ≡ after_word old.words
  pub word_is : word ≡ next_word old.words
  pub index_is : index ≡ drawn array_length word
  pub index_below : index < array_length

pub holds_from : (old u new : Store) (a : ℕ) (both : ℕ × ℕ) (x : Block) (b : KeptBlock) (words : Words) → u ≡ record old { owed = old.owed - cond b.failed 0 1 } → b ≡ kept_of false x
    → both ≡ (next_word u.words, drawn array_length (next_word u.words)) → both.1 < array_length → words ≡ after_word u.words
    → Updates u.blocks new.blocks a (Some (record b { quarantined = true })) → new ≡ record u { blocks = new.blocks; words = words } → Holds old new a x both.0 both.1
holds_from old u new a both x b words uncounted is drawn_both below took put others = record {
  blocks_are = λ q. put q ∙ (ap (λ (k : KeptBlock). cond (a == q) (Some (record k { quarantined = true })) (map.get u.blocks.blocks q)) is ∙ ap (λ (k : Store). cond (a == q) (Some (kept_of true x)) (map.get k.blocks.blocks q)) uncounted);
  space_same = ap (λ (k : Store). k.space) others ∙ ap (λ (k : Store). k.space) uncounted;
  owed_less = ap (λ (k : Store). k.owed) others ∙ (ap (λ (k : Store). k.owed) uncounted ∙ ap (λ (k : KeptBlock). old.owed - cond k.failed 0 1) is);
  quarantine_same = ap (λ (k : Store). k.quarantine) others ∙ ap (λ (k : Store). k.quarantine) uncounted;
  words_are = ap (λ (k : Store). k.words) others ∙ (took ∙ ap (λ (k : Store). after_word k.words) uncounted);
  word_is = ap (λ (p : ℕ × ℕ). p.0) drawn_both ∙ ap (λ (k : Store). next_word k.words) uncounted;
  index_is = ap (λ (p : ℕ × ℕ). p.1) drawn_both ∙ sym (ap (λ (p : ℕ × ℕ). drawn array_length p.0) drawn_both);
  index_below = below;
}

module _ (c : Config) (n : ℕ) (s : State) (old quarantined_store : Store) (a word index : ℕ) (x : Block) where
  -- the state with the block in quarantine
  abbrev pub quarantined_state : State
  quarantined_state = record s { live = removed a s.live; quarantined = (a, x) ∷ s.quarantined; frees = free_at a word ∷ s.frees }

  pub holds_table : IsSound c s → at a s.live ≡ Some x → Shows c n s old → Holds old quarantined_store a x word index → ShowsTable c (record s { live = removed a s.live; quarantined = (a, x) ∷ s.quarantined; frees = free_at a word ∷ s.frees }) quarantined_store
  holds_table sound e h k = table_quarantined c n s old quarantined_store a x (free_at a word ∷ s.frees) sound e h k.blocks_are k.space_same k.owed_less

  pub holds_sound : IsSound c s → at a s.live ≡ Some x → is_quarantined x ≡ true → IsSound c (record s { live = removed a s.live; quarantined = (a, x) ∷ s.quarantined; frees = free_at a word ∷ s.frees })
  holds_sound sound e small =
      let same : takes_back a word (Some x) s ≡ record s { live = removed a s.live; quarantined = (a, x) ∷ s.quarantined; frees = free_at a word ∷ s.frees } =
      ap (λ t. cond t (record s { live = removed a s.live; quarantined = (a, x) ∷ s.quarantined; frees = free_at a word ∷ s.frees }) (record s { live = removed a s.live })) small in
      subst (IsSound c) same (sound_takes_back c s a word (Some x) e sound)

  -- what leaves was in quarantine
  pub left_quarantined : (left : ℕ) → IsSound c s → at a s.live ≡ Some x → Shows c n s old → Holds old quarantined_store a x word index → Some left ≡ let_go quarantined_store.quarantine a index
      → (y : Block) × (at left ((a, x) ∷ s.quarantined) ≡ Some y)
  left_quarantined left sound e h k is = found (at left ((a, x) ∷ s.quarantined)) refl (release_ok c n s old a word x (Some left) sound e h below back).0.0
    where
      below : drawn array_length word < array_length
      below = subst (λ (p : ℕ). p < array_length) k.index_is k.index_below

      back : released array_length ring_length s.frees (free_at a word) ≡ Some left
      back = sym (is ∙ (ap (λ (z : Kept). let_go z a index) (k.quarantine_same ∙ h.quarantine) ∙ (ap (λ p. let_go (kept_after array_length ring_length s.frees) a p) k.index_is
          ∙ looks_back array_length ring_length s.frees (free_at a word) (indices_more c n s old a word x h below))))

      found : (o : Option Block) → at left ((a, x) ∷ s.quarantined) ≡ o → is_some (at left ((a, x) ∷ s.quarantined)) ≡ true → (y : Block) × (at left ((a, x) ∷ s.quarantined) ≡ Some y)
      found None f some = absurd (true≢false (sym some ∙ ap is_some f))
      found (Some y) f some = (y, f)

  -- nothing leaves
  pub frees_none : (quarantine : Kept) → IsSound c s → at a s.live ≡ Some x → is_quarantined x ≡ true → Shows c n s old → Holds old quarantined_store a x word index → nothing ≡ let_go quarantined_store.quarantine a index
      → quarantine ≡ kept_with quarantined_store.quarantine a index → Frees c n s a x (record quarantined_store { quarantine = quarantine }) (record { released = nothing; word = Some word })
  frees_none quarantine sound e small h k is keeps =
      let t = holds_table sound e h k in
      frees_quarantined c n s old (record quarantined_store { quarantine = quarantine }) a x word index nothing sound e small h k.word_is k.index_is k.index_below (is ∙ ap (λ (z : Kept). let_go z a index) k.quarantine_same)
      (record { blocks_are = t.blocks_are; space_is = t.space_is; out_is = t.out_is; owed_are = t.owed_are }) (keeps ∙ ap (λ (z : Kept). kept_with z a index) k.quarantine_same) k.words_are

  -- a block leaves
  pub frees_some : (quarantine : Kept) (left : ℕ) (new : Store) → IsSound c s → at a s.live ≡ Some x → is_quarantined x ≡ true → Shows c n s old → Holds old quarantined_store a x word index
      → Some left ≡ let_go quarantined_store.quarantine a index → quarantine ≡ kept_with quarantined_store.quarantine a index
      → Updates quarantined_store.blocks new.blocks left None → IfSome (map.get quarantined_store.blocks.blocks left) (GaveBack quarantined_store.space new.space left)
      → new.quarantine ≡ quarantine → new.words ≡ quarantined_store.words → new.owed ≡ quarantined_store.owed → Frees c n s a x new (record { released = Some left; word = Some word })
  frees_some quarantine left new sound e small h k is keeps gone gave same_quarantine same_words same_owed =
      let after = record s { live = removed a s.live; quarantined = (a, x) ∷ s.quarantined; frees = free_at a word ∷ s.frees } in
      let t = holds_table sound e h k in
      let y = left_quarantined left sound e h k is in
      let ok = holds_sound sound e small in
      let back : GaveBack quarantined_store.space new.space left (kept_of true y.0) = subst (λ o. IfSome o (GaveBack quarantined_store.space new.space left)) (kept_quarantined_at c after quarantined_store left y.0 ok t y.1) gave in
      let table = table_released c after quarantined_store new left y.0 ok y.1 t gone back same_owed in
      frees_quarantined c n s old new a x word index (Some left) sound e small h k.word_is k.index_is k.index_below (is ∙ ap (λ (z : Kept). let_go z a index) k.quarantine_same)
      table (same_quarantine ∙ (keeps ∙ ap (λ (z : Kept). kept_with z a index) k.quarantine_same)) (same_words ∙ k.words_are)
