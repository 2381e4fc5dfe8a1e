-- What the blocks say after a change.
use Rattle.std.proofs.Common.{◌≡◌, ℕ, zero, suc, ◌+◌, ◌-◌, ◌*◌, ◌<◌, ◌↔◌, true, false, cond, List, [], ◌∷◌, ◌++◌, map, length, take, drop, get_or, Option, Some, None, option_map, is_some, refl, sym, ◌∙◌, ap, subst, arith}
use Rattle.std.proofs.lemmas.Option.{none-some, same_Some}
use Rattle.std.proofs.lemmas.List.{map-set}
use Rattle.std.proofs.lemmas.List.Edits.{map_over_more}
use Rattle.std.proofs.Math.ListN.{get_or-map}
use lib.ListN.{set}
use Rattle.hm_model.specs.Maps.{at, has, removed}
use Rattle.hm_quarantine.specs.Delay.{slots_of}
use Rattle.hm_sizes.specs.declared.config.Config.{Config}
use Rattle.hm_sizes.specs.Configs.{IsValid}
use Rattle.hm_space.specs.Ranges.{IsInSome}
use Rattle.hm_space.specs.Space.{FreeSpace, IsFree, TakesRange, GivesRange}
use Rattle.hm_large_rules.specs.State.{Block, Blocks, size_for, is_quarantined, covers, covered, State, taken, IsOpen}
use Rattle.hm_large_rules.specs.Steps.{new_block, mark, marked, takes_back, free_at}
use Rattle.hm_large_rules.specs.Rules.{IsCandidate}
use Rattle.hm_large.specs.Kept.{kept_of}
use Rattle.hm_large_rules.specs.Laws.{IsSound}
use Rattle.hm_large.specs.Frees.{GoesBack}
use Rattle.hm_large_rules.proofs.BlockLists.{how_many_removed, at_covered, length_removed, in_space_at}
use Rattle.hm_large_rules.proofs.Legal.{live_once, quarantined_once}
use Rattle.hm_large.proofs.Shown.{open_given}
use Rattle.hm_large.proofs.Released.{goes_back, open_back}
use Rattle.hm_large_book.specs.declared.blocks.LiveBlock.{LiveBlock}
use Rattle.hm_large_book.specs.declared.blocks.BlockBook.{BlockBook}
use Rattle.hm_large_book.specs.declared.blocks.Extent.{Extent}
use Rattle.hm_large_book.specs.Book.{block_of, block_in, blocks_in, extent_of, ShowsBlocks}
use Rattle.hm_large_book.proofs.Finding.{removed_pairs, at_pairs, length_pairs}

-- ---- a new block
pub shows_inserted : (c : Config) (s : State) (k new : BlockBook) (a asked guard align : ℕ) → ShowsBlocks c s k → IsCandidate c s align (size_for asked) guard a
    → blocks_in new.live.items ≡ (a, new_block asked guard) ∷ blocks_in k.live.items → new.quarantined.items ≡ k.quarantined.items → new.recent.items ≡ k.recent.items
    → TakesRange k.space new.space (a - 4096 * guard) (size_for asked + 2 * (4096 * guard)) → new.space.out ≡ k.space.out + 1
    → ShowsBlocks c (record s { live = (a, new_block asked guard) ∷ s.live }) new
shows_inserted c s k new a asked guard align h fits live quarantined recent takes out = record {
  live = live ∙ ap (λ (m : Blocks). (a, new_block asked guard) ∷ m) h.live;
  quarantined = quarantined ∙ h.quarantined;
  recent = recent ∙ h.recent;
  space = open_given c s k.space new.space a s.words (new_block asked guard) (omega (arith, fits.from)) fits.free h.space takes;
  out = omega (arith, out, h.out);
}

-- ---- a block that is no longer live
taken_twice : (n : ℕ) (l : List ℕ) → take n (take (suc n) l) ≡ take n l
taken_twice zero l = refl
taken_twice (suc n) [] = refl
taken_twice (suc n) (x ∷ l) = ap (λ m. x ∷ m) (taken_twice n l)

module _ (c : Config) (s : State) (k : BlockBook) (a : ℕ) (x : Block) (sound : IsSound c s) (shows : ShowsBlocks c s k) (there : at a s.live ≡ Some x) where
  pub goes_live : IsValid c → GoesBack k.space a (kept_of false x)
  goes_live valid = goes_back c s k.space a x false valid (in_space_at c a x s.live sound.live there) shows.space (omega (arith, shows.out, length_removed a x s.live there (live_once c s a sound))) (λ q covers_q. omega (arith, at_covered q a x s.live there covers_q))

  -- it leaves
  pub shows_left : (new : BlockBook) → blocks_in new.live.items ≡ removed a (blocks_in k.live.items) → new.quarantined.items ≡ k.quarantined.items → new.recent.items ≡ k.recent.items
      → GivesRange k.space new.space (a - 4096 * x.guard) (x.size + 2 * (4096 * x.guard)) → new.space.out + 1 ≡ k.space.out → ShowsBlocks c (record s { live = removed a s.live }) new
  shows_left new live quarantined recent gives out = record {
    live = live ∙ ap (removed a) shows.live;
    quarantined = quarantined ∙ shows.quarantined;
    recent = recent ∙ shows.recent;
    space = open_back c s (record s { live = removed a s.live }) k.space new.space a x (in_space_at c a x s.live sound.live there) (λ q. (let m = how_many_removed (covers q) a x s.live there (live_once c s a sound) in omega (arith, m))) sound.once shows.space gives;
    out = omega (arith, out, shows.out, length_removed a x s.live there (live_once c s a sound));
  }

  -- it goes into quarantine
  pub shows_quarantined : (new : BlockBook) (word : ℕ) → is_quarantined x ≡ true → blocks_in new.live.items ≡ removed a (blocks_in k.live.items) → new.quarantined.items ≡ (a, extent_of x) ∷ k.quarantined.items
      → new.recent.items ≡ a ∷ take 1024 k.recent.items → new.space ≡ k.space → ShowsBlocks c (takes_back a word (Some x) s) new
  shows_quarantined new word small live quarantined recent space =
      subst (λ (z : State). ShowsBlocks c z new) (sym same) (record {
        live = live ∙ ap (removed a) shows.live;
        quarantined = quarantined ∙ ap (λ (m : List (ℕ × Extent)). (a, extent_of x) ∷ m) shows.quarantined;
        recent = recent ∙ ap (λ (l : List ℕ). a ∷ take 1024 l) shows.recent ∙ ap (λ (l : List ℕ). a ∷ l) (taken_twice 1024 (slots_of s.frees));
        space = λ q. subst (λ (z : FreeSpace). IsFree z q ↔ IsOpen c (record s { live = removed a s.live; quarantined = (a, x) ∷ s.quarantined; frees = free_at a word ∷ s.frees }) q) (sym space)
            ((λ f. (((shows.space q).0 f).0, omega (arith, ((shows.space q).0 f).1, moved q))), (λ o. (shows.space q).1 (o.0, omega (arith, o.1, moved q))));
        out = ap (λ (z : FreeSpace). z.out) space ∙ omega (arith, shows.out, length_removed a x s.live there (live_once c s a sound));
      })
    where
      same : takes_back a word (Some x) s ≡ record s { live = removed a s.live; quarantined = (a, x) ∷ s.quarantined; frees = free_at a word ∷ s.frees }
      same = ap (λ t. cond t (record s { live = removed a s.live; quarantined = (a, x) ∷ s.quarantined; frees = free_at a word ∷ s.frees }) (record s { live = removed a s.live })) small

      moved : (q : ℕ) → covered q (removed a s.live) + covered q ((a, x) ∷ s.quarantined) ≡ taken s q
      moved q = omega (arith, how_many_removed (covers q) a x s.live there (live_once c s a sound))

-- ---- a block that leaves the quarantine
module _ (c : Config) (s : State) (k : BlockBook) (b : ℕ) (y : Block) (sound : IsSound c s) (shows : ShowsBlocks c s k) (there : at b s.quarantined ≡ Some y) where
  pub goes_quarantined : IsValid c → GoesBack k.space b (kept_of true y)
  goes_quarantined valid = goes_back c s k.space b y true valid (in_space_at c b y s.quarantined sound.quarantined there) shows.space (omega (arith, shows.out, length_removed b y s.quarantined there (quarantined_once c s b sound))) (λ q covers_q. omega (arith, at_covered q b y s.quarantined there covers_q))

  pub shows_let_go : (new : BlockBook) → new.live.items ≡ k.live.items → new.quarantined.items ≡ removed b k.quarantined.items → new.recent.items ≡ k.recent.items
      → GivesRange k.space new.space (b - 4096 * y.guard) (y.size + 2 * (4096 * y.guard)) → new.space.out + 1 ≡ k.space.out → ShowsBlocks c (record s { quarantined = removed b s.quarantined }) new
  shows_let_go new live quarantined recent gives out = record {
    live = ap blocks_in live ∙ shows.live;
    quarantined = quarantined ∙ ap (removed b) shows.quarantined ∙ sym (removed_pairs extent_of b s.quarantined);
    recent = recent ∙ shows.recent;
    space = open_back c s (record s { quarantined = removed b s.quarantined }) k.space new.space b y (in_space_at c b y s.quarantined sound.quarantined there) (λ q. (let m = how_many_removed (covers q) b y s.quarantined there (quarantined_once c s b sound) in omega (arith, m))) sound.once shows.space gives;
    out = omega (arith, out, shows.out, length_removed b y s.quarantined there (quarantined_once c s b sound));
  }

-- ---- what may be released
module _ (c : Config) (s : State) (k : BlockBook) (shows : ShowsBlocks c s k) where
  pub quarantined_is : (b : ℕ) → at b k.quarantined.items ≡ option_map extent_of (at b s.quarantined)
  quarantined_is b = ap (at b) shows.quarantined ∙ at_pairs extent_of b s.quarantined

  pub quarantined_has : (b : ℕ) → is_some (at b k.quarantined.items) ≡ has b s.quarantined
  quarantined_has b = ap is_some (quarantined_is b) ∙ some_map (at b s.quarantined)
    where
      some_map : (o : Option Block) → is_some (option_map extent_of o) ≡ is_some o
      some_map None = refl
      some_map (Some x) = refl

  pub quarantined_others : (b : ℕ) → length (removed b k.quarantined.items) ≡ length (removed b s.quarantined)
  quarantined_others b = ap (λ (m : List (ℕ × Extent)). length (removed b m)) shows.quarantined ∙ ap length (sym (removed_pairs extent_of b s.quarantined)) ∙ length_pairs extent_of (removed b s.quarantined)

-- a block in quarantine reaches as far as its extent says
pub extent_some : (o : Option Block) (extent : Extent) → option_map extent_of o ≡ Some extent → (x : Block) × (o ≡ Some x) × (extent ≡ extent_of x)
extent_some None extent e = absurd (none-some extent e)
extent_some (Some x) extent e = (x, refl, sym (same_Some (extent_of x) extent e))

-- ---- noting a page fault, block by block
past_all : {X : Type 0} (f : X → X) (xs : List X) (n : ℕ) → n ≡ length xs → map f (take n xs) ++ drop n xs ≡ map f xs
past_all f [] n e = by n e
  where
    by : (n : ℕ) → n ≡ 0 → map f (take n []) ++ drop n [] ≡ []
    by zero e = refl
    by (suc n) e = refl
past_all f (x ∷ xs) zero e = absurd (omega arith)
past_all f (x ∷ xs) (suc n) e = ap (λ l. f x ∷ l) (past_all f xs n (omega arith))

module _ (a : ℕ) (old live : List (ℕ × LiveBlock)) (same : length live ≡ length old) where
  pub mark_next : (i : ℕ) (item new : ℕ × LiveBlock) → i < length old → item ≡ get_or live i item → block_in new ≡ mark a (block_in item)
      → blocks_in live ≡ map (mark a) (take i (blocks_in old)) ++ drop i (blocks_in old)
      → blocks_in (set live i new) ≡ map (mark a) (take (i + 1) (blocks_in old)) ++ drop (i + 1) (blocks_in old)
  mark_next i item new lt is marks so_far =
      map-set block_in live i new ∙ ap (set (blocks_in live) i) marks
      ∙ map_over_more (mark a) (blocks_in old) (blocks_in live) i (block_in item) (omega (arith, lt, length_pairs block_of old)) so_far (ap block_in is ∙ sym (get_or-map block_in live i item))

-- a range is taken out of ranges for which there is more room
pub more_taken : (old room new : FreeSpace) (at len : ℕ) → room.ranges ≡ old.ranges → TakesRange room new at len → TakesRange old new at len
more_taken old room new at len same takes =
    λ q. (
      (λ f. (let t = (takes q).0 f in (subst (λ l. IsInSome l q) same t.0, t.1))),
      (λ t. (takes q).1 (subst (λ l. IsInSome l q) (sym same) t.0, t.1)),
    )
