-- What an attempt at allotting leaves.
use Rattle.std.proofs.Common.{◌≡◌, ℕ, zero, suc, ◌+◌, ◌-◌, ◌*◌, ◌^◌, ◌<◌, ◌≤◌, false, ◌∷◌, Option, Some, None, sym, ◌∙◌, ap, subst, refl, arith}
use Rattle.std.specs.FinMap as map
use Rattle.std.proofs.lemmas.Nat.{mod_below}
use Rattle.hm_choice.specs.Stream.{Words, next_word, after_word, before_word}
use Rattle.hm_choice.proofs.Positions.{comes_again}
use Rattle.hm_model.specs.declared.entry.Reply.{Reply}
use Rattle.hm_model.specs.Maps.{at}
use Rattle.hm_outside.specs.declared.pages.Pages as pages
use Rattle.hm_space.specs.Space.{IsFreeRange, TakesRange}
use Rattle.hm_sizes.specs.declared.config.Config.{Config}
use Rattle.hm_sizes.specs.Configs.{IsValid}
use Rattle.hm_region_table.specs.Table.{Table}
use Rattle.hm_large.specs.declared.store.Store.{Store}
use Rattle.hm_large_rules.specs.State.{Block, size_for, State}
use Rattle.hm_large_rules.specs.Steps.{new_block}
use Rattle.hm_large_rules.specs.Draws.{guard_of, stream_after}
use Rattle.hm_large_rules.specs.Rules.{IsCandidate, IsLeastCandidate}
use Rattle.hm_large_rules.specs.Laws.{IsSound}
use Rattle.hm_large.specs.Kept.{kept_or, kept_at, Shows}
use Rattle.hm_large.specs.BlockTable.{Updates}
use Rattle.hm_large.specs.Gives.{SameStore, Allots, Ends}
use Rattle.hm_large.proofs.Addresses.{candidate_fit}
use Rattle.hm_large_rules.proofs.Candidates.{not_live, not_quarantined}
use Rattle.hm_large.proofs.Shown.{Gives, shows_same, shows_given}

-- ---- words
pub place_below : (n words : ℕ) → (stream_after n words).place < 2 ^ 68
place_below n zero = omega arith
place_below n (suc words) = mod_below ((stream_after n words).place + 1) (2 ^ 68) (omega arith)

-- a word that is taken and put back comes again
pub word_back : (n words : ℕ) (w x y : Words) → w ≡ stream_after n words → x ≡ after_word w → y ≡ before_word x → y ≡ stream_after n words
word_back n words w x y e f g = g ∙ (ap before_word (f ∙ ap after_word e) ∙ comes_again (stream_after n words) (place_below n words))

-- ---- candidates look at the blocks alone
pub same_candidate : (c : Config) (s : State) (words align size guard a : ℕ) → IsCandidate c (record s { words = words }) align size guard a → IsCandidate c s align size guard a
same_candidate c s words align size guard a h = record { aligned = h.aligned; from = h.from; to = h.to; free = h.free }

more_candidate : (c : Config) (s : State) (words align size guard a : ℕ) → IsCandidate c s align size guard a → IsCandidate c (record s { words = words }) align size guard a
more_candidate c s words align size guard a h = record { aligned = h.aligned; from = h.from; to = h.to; free = h.free }

pub same_least : (c : Config) (s : State) (words align size guard a : ℕ) → IsLeastCandidate c (record s { words = words }) align size guard a → IsLeastCandidate c s align size guard a
same_least c s words align size guard a h = record {
  fits = same_candidate c s words align size guard a h.fits;
  least = λ other k. h.least other (more_candidate c s words align size guard other k);
}

pub same_none : (c : Config) (s : State) (words align size guard : ℕ) → ((a : ℕ) → IsCandidate c (record s { words = words }) align size guard a → ⊥) → (a : ℕ) → IsCandidate c s align size guard a → ⊥
same_none c s words align size guard none a k = none a (more_candidate c s words align size guard a k)

-- nothing is kept at a candidate
pub fresh_key : (c : Config) (s : State) (align size guard a : ℕ) → 1 ≤ size → IsSound c s → IsCandidate c s align size guard a → kept_at s a ≡ None
fresh_key c s align size guard a some h k = by_cases (at a s.live) (at a s.quarantined) refl refl
  where
    by_cases : (live quarantined : Option Block) → at a s.live ≡ live → at a s.quarantined ≡ quarantined → kept_at s a ≡ None
    by_cases (Some x) quarantined e f = absurd (not_live c s align size guard a some h k x e)
    by_cases None (Some x) e f = absurd (not_quarantined c s align size guard a some h k x f)
    by_cases None None e f = ap (λ (o : Option Block). kept_or o (at a s.quarantined)) e ∙ ap (kept_or None) f

-- a candidate lies below 2 ^ 47
pub candidate_below : (c : Config) (s : State) (align size guard a : ℕ) → IsValid c → IsCandidate c s align size guard a → a + size ≤ 2 ^ 47
candidate_below c s align size guard a valid k = omega (arith, k.to, valid.space_most)

-- and its range is free
pub candidate_free : (c : Config) (n : ℕ) (s : State) (k : Store) (align size guard a : ℕ) → Shows c n s k → IsCandidate c s align size guard a → IsFreeRange k.space (a - 4096 * guard) (size + 2 * (4096 * guard))
candidate_free c n s k align size guard a h candidate =
    let back : a - 4096 * guard + 4096 * guard ≡ a = omega (arith, candidate.from) in
    (candidate_fit c s k.space align size guard (size + 2 * (4096 * guard)) h.space refl a (a - 4096 * guard) back candidate).free

-- ---- the store once a word is drawn
pub shows_drawn : (c : Config) (n : ℕ) (s : State) (k r d : Store) → d ≡ record r { words = after_word r.words } → SameStore k r → r.words ≡ k.words
    → Shows c n s k → Shows c n (record s { words = suc s.words }) d
shows_drawn c n s k r d e same words h =
    subst (Shows c n (record s { words = suc s.words })) (sym e)
    (shows_same c n s k (record r { words = after_word r.words }) (suc s.words) h
    (record { blocks = same.blocks; ranges = same.ranges; out = same.out; quarantine = same.quarantine; owed_same = same.owed_same })
    (ap after_word (words ∙ h.words)))

-- the table is another, with the same at each address
pub shows_table : (c : Config) (n : ℕ) (s : State) (k new : Store) → Shows c n s k → SameStore k new → new.words ≡ k.words → Shows c n s new
shows_table c n s k new h same words = shows_same c n s k new s.words h same (words ∙ h.words)

-- the address that was found in it is the lowest candidate
pub found_least : (c : Config) (n : ℕ) (s : State) (k r d : Store) (align size guard a : ℕ) → d ≡ record r { words = after_word r.words } → SameStore k r → r.words ≡ k.words
    → ((c : Config) (n : ℕ) (s : State) → Shows c n s d → IsLeastCandidate c s align size guard a) → Shows c n s k → IsLeastCandidate c s align size guard a
found_least c n s k r d align size guard a e same words found h =
    same_least c s (suc s.words) align size guard a (found c n (record s { words = suc s.words }) (shows_drawn c n s k r d e same words h))

module _ {P : Type 0} (meaning : pages.Ghosts P) (c : Config) (n : ℕ) (s : State) (asked align : ℕ) (k r : Store) (old now : P) (size word guard : ℕ) where
  -- what an attempt has of the word, once it is known how it ends
  pub allots_from : (r' : Reply) (new : Store) → Shows c n s k → size ≡ size_for asked → r.words ≡ k.words → word ≡ next_word r.words → guard ≡ guard_of size word → Ends meaning c n s asked align new old now guard r'
      → Allots meaning c n s asked align new old now (record { word = word; guard = guard; reply = r' })
  allots_from r' new h e words drawn by ends = record { word = drawn ∙ ap next_word (words ∙ h.words); guard = by ∙ ap (λ z. guard_of z word) e; ends = ends }

-- the table, the free ranges and the count once a block was put in
pub gives_from : (d new : Store) (blocks : Table) (a asked size guard : ℕ) → Updates d.blocks blocks a (Some (record { asked = asked; size = size; guard = guard; quarantined = false; failed = false }))
    → new.blocks ≡ blocks → TakesRange d.space new.space (a - 4096 * guard) (size + 2 * (4096 * guard)) → new.space.out ≡ d.space.out + 1 → new.quarantine ≡ d.quarantine → new.owed ≡ d.owed + 1
    → Gives d new a asked size guard
gives_from d new blocks a asked size guard put same takes out quarantine owed = record {
  blocks = λ q. ap (λ (m : Table). map.get m.blocks q) same ∙ put q;
  space = takes;
  out = out;
  quarantine = quarantine;
  owed_more = owed;
}

-- the store with a block that was put in
pub shows_new : (c : Config) (n : ℕ) (s : State) (d new : Store) (align asked size guard a words : ℕ) → size ≡ size_for asked → IsCandidate c s align (size_for asked) guard a → Shows c n (record s { words = words }) d
    → Gives d new a asked size guard → new.words ≡ d.words → Shows c n (record s { live = (a, new_block asked guard) ∷ s.live; words = words }) new
shows_new c n s d new align asked size guard a words e k h gives same =
    shows_given c n (record s { words = words }) d new a words (new_block asked guard) refl (omega (arith, k.from)) k.free h (subst (λ (z : ℕ). Gives d new a asked z guard) e gives) (same ∙ h.words)
