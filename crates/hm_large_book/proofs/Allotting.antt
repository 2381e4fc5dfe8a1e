-- Entries of a call that allots.
use Rattle.std.proofs.Common.{◌≡◌, ◌∷◌, ℕ, suc, ◌+◌, ◌<◌, ◌≤◌, ◌&&◌, Bool, true, false, not, Option, Some, None, is_some, is_none, true≢false, refl, sym, ◌∙◌, ap, subst, arith}
use Rattle.std.specs.Prelude.{unwrap_or, IsTrue, ◌↔◌, MatchOption}
use Rattle.std.proofs.lemmas.Bool.{and_parts, and_from}
use Rattle.hm_sizes.specs.declared.config.Config.{Config}
use Rattle.hm_sizes.specs.Configs.{IsValid}
use Rattle.hm_large_book.specs.Spaces.{IsSpaceOf}
use Rattle.hm_large_book.specs.Changes.{HasSpace}
use Rattle.hm_choice.specs.Stream.{Words, next_word, after_word}
use Rattle.hm_model.specs.declared.entry.Entry.{Entry}
use Rattle.hm_model.specs.declared.entry.Draws.{Draws}
use Rattle.hm_model.specs.declared.entry.Call.TheVariants.{Allot}
use Rattle.hm_model.specs.declared.entry.Reply.{Reply}
use Rattle.hm_model.specs.declared.entry.Reply.TheVariants.{Given, NoSpace, PagesFailed}
use Rattle.hm_model.specs.Calls.{one_word}
use Rattle.hm_large_rules.specs.State.{size_for, State, array_length, ring_length}
use Rattle.hm_large_rules.specs.Draws.{guard_of, stream_after}
use Rattle.hm_large_rules.specs.Steps.{new_block, changed}
use Rattle.hm_quarantine.specs.LookingBack.{AreIndices, kept_after}
use Rattle.hm_large_rules.specs.Rules.{Allows, chose_guard, IsCandidate, IsLeastCandidate}
use Rattle.hm_large_rules.specs.Drawn.{IsDrawnEvent}
use Rattle.hm_model.specs.declared.judgement.Judgement.{Judgement}
use Rattle.hm_model.specs.declared.judgement.Judgement.TheVariants.{Taken, NotLegal, NotDrawn}
use Rattle.hm_large_book.specs.declared.book.LargeBook.{LargeBook}
use Rattle.hm_large_book.specs.declared.blocks.BlockBook.{BlockBook}
use Rattle.hm_large_book.specs.Book.{ShowsBlocks, Stands}
use Rattle.hm_large_book.specs.Guarded.{DrawsGuard, JudgesGuard}
use Rattle.hm_large_book.specs.Judged.{terms_of, IsJudged, Judges}
use Rattle.hm_large_book.proofs.Judging.{blocks_words}

module _ (k : LargeBook) (e : Entry) (asked align : ℕ) (reply : Reply) where
  -- an entry that is not allowed
  pub not_legal : (new : LargeBook) → new.config ≡ k.config → new.seed ≡ k.seed → ((s : State) → Stands s k → Allows (terms_of k.config) s e (Allot asked align) reply → ⊥)
      → Judges k e (Allot asked align) reply new NotLegal
  not_legal new config seed not = record { judged = λ s st. not s st; config_same = config; seed_same = seed }

  -- one that is allowed, by the word that comes next
  pub allot_judged : (b : BlockBook) (words : Words) (size : ℕ) (j : Judgement) → size ≡ size_for asked → words ≡ after_word k.words
      → ((s : State) → Stands s k → Allows (terms_of k.config) s e (Allot asked align) reply)
      → ((s : State) → Stands s k → ShowsBlocks k.config (changed e (Allot asked align) reply s) b)
      → ((s : State) → ((changed e (Allot asked align) reply s).frees ≡ s.frees) × ((changed e (Allot asked align) reply s).faults ≡ s.faults))
      → JudgesGuard k.words e size j → Judges k e (Allot asked align) reply (record k { blocks = b; words = words }) j
  allot_judged b words size j is took allows shows same h = record { judged = λ s st. by j h s st; config_same = refl; seed_same = refl }
    where
      to_draws : (s : State) → Stands s k → DrawsGuard k.words e size → IsDrawnEvent k.seed s e (Allot asked align) reply
      to_draws s st d = (d.word ∙ ap (λ w. one_word (next_word w)) st.shows.words, d.guard ∙ (λ i. Some (guard_of (is i) (next_word (st.shows.words i)))))

      from_draws : (s : State) → Stands s k → IsDrawnEvent k.seed s e (Allot asked align) reply → DrawsGuard k.words e size
      from_draws s st d = record { word = d.0 ∙ sym (ap (λ w. one_word (next_word w)) st.shows.words); guard = d.1 ∙ sym (λ i. Some (guard_of (is i) (next_word (st.shows.words i)))) }

      by : (j : Judgement) → JudgesGuard k.words e size j → (s : State) → Stands s k → IsJudged k s e (Allot asked align) reply (record k { blocks = b; words = words }) j
      by Taken h s st = (
        allows s st,
        to_draws s st h,
        record {
          blocks = blocks_words k.config (changed e (Allot asked align) reply s) b (e.draws.used + s.words) (shows s st);
          quarantine = st.shows.quarantine ∙ ap (λ f. kept_after array_length ring_length f) (sym (same s).0);
          indices = subst (AreIndices array_length) (sym (same s).0) st.shows.indices;
          words = took ∙ ap after_word st.shows.words ∙ ap (stream_after k.seed) {x = suc s.words} {y = e.draws.used + s.words} (omega (arith, ap (λ (d : Draws). d.used) h.word));
          faults = st.shows.faults ∙ sym (same s).1;
        },
      )
      by NotLegal h s st = absurd h
      by NotDrawn h s st = (allows s st, λ d. h (from_draws s st d))

-- ---- what an allowed entry is
parts2 : (a b : Bool) → (a && b) ≡ true → (a ≡ true) × (b ≡ true)
parts2 a b e = and_parts a b e

parts3 : (a b c : Bool) → ((a && b) && c) ≡ true → (a ≡ true) × (b ≡ true) × (c ≡ true)
parts3 a b c e = (let o = and_parts (a && b) c e in let i = and_parts a b o.0 in (i.0, i.1, o.1))

off_on : (b : Bool) → b ≡ false → b ≡ true → ⊥
off_on b off on = true≢false (sym on ∙ off)

-- the addresses that a search says
abbrev pub Least : LargeBook → ℕ → ℕ → ℕ → Option ℕ → Type 0
Least k size guard align least = (c : Config) (s : State) → IsValid c → IsSpaceOf c s k.blocks.space
    → MatchOption least ((a : ℕ) → IsCandidate c s align size guard a → ⊥) (IsLeastCandidate c s align size guard)

module _ (k : LargeBook) (e : Entry) (asked align guard size : ℕ) (least : Option ℕ) (guard_is : guard ≡ unwrap_or e.choices.guard 0) (size_is : size ≡ size_for asked) (indices : Least k size guard align least)
    (chosen : Bool) (exact : IsTrue chosen ↔ (e.choices ≡ chose_guard guard)) where
  at_own : (s : State) → Stands s k → MatchOption least ((a : ℕ) → IsCandidate k.config s align (size_for asked) (unwrap_or e.choices.guard 0) a → ⊥) (IsLeastCandidate k.config s align (size_for asked) (unwrap_or e.choices.guard 0))
  at_own s st = subst (λ (z : ℕ). MatchOption least ((a : ℕ) → IsCandidate k.config s align z (unwrap_or e.choices.guard 0) a → ⊥) (IsLeastCandidate k.config s align z (unwrap_or e.choices.guard 0))) size_is
      (subst (λ (g : ℕ). MatchOption least ((a : ℕ) → IsCandidate k.config s align size g a → ⊥) (IsLeastCandidate k.config s align size g)) guard_is (indices k.config s st.valid st.shows.blocks.space))

  chose_own : chosen ≡ true → e.choices ≡ chose_guard (unwrap_or e.choices.guard 0)
  chose_own on = exact.0 on ∙ ap chose_guard guard_is

  own_chosen : e.choices ≡ chose_guard (unwrap_or e.choices.guard 0) → chosen ≡ true
  own_chosen h = exact.1 (h ∙ ap chose_guard (sym guard_is))

  -- no space
  module _ (none : Bool) (none_is : none ≡ is_none least) where
    pub space_allows : (chosen && none) ≡ true → (s : State) → Stands s k → Allows (terms_of k.config) s e (Allot asked align) NoSpace
    space_allows on s st = (by least (at_own s st) (sym none_is ∙ (parts2 chosen none on).1), chose_own (parts2 chosen none on).0)
      where
        by : (o : Option ℕ) → MatchOption o ((a : ℕ) → IsCandidate k.config s align (size_for asked) (unwrap_or e.choices.guard 0) a → ⊥) (IsLeastCandidate k.config s align (size_for asked) (unwrap_or e.choices.guard 0))
            → is_none o ≡ true → (a : ℕ) → IsCandidate k.config s align (size_for asked) (unwrap_or e.choices.guard 0) a → ⊥
        by None m is = m
        by (Some a) m is = absurd (true≢false (sym is))

    pub space_refuses : (chosen && none) ≡ false → (s : State) → Stands s k → Allows (terms_of k.config) s e (Allot asked align) NoSpace → ⊥
    space_refuses off s st h = off_on (chosen && none) off (and_from chosen none (own_chosen h.1) (none_is ∙ by least (at_own s st)))
      where
        by : (o : Option ℕ) → MatchOption o ((a : ℕ) → IsCandidate k.config s align (size_for asked) (unwrap_or e.choices.guard 0) a → ⊥) (IsLeastCandidate k.config s align (size_for asked) (unwrap_or e.choices.guard 0)) → is_none o ≡ true
        by None m = refl
        by (Some a) m = absurd (h.0 a m.fits)

  -- a page fault occurred
  module _ (some risen : Bool) (some_is : some ≡ is_some least) (risen_is : IsTrue risen ↔ (e.faults_before < e.faults_after)) where
    pub fault_allows : ((chosen && some) && risen) ≡ true → (s : State) → Stands s k → Allows (terms_of k.config) s e (Allot asked align) PagesFailed
    fault_allows on s st = (let p = parts3 chosen some risen on in ((by least (at_own s st) (sym some_is ∙ p.1), risen_is.0 p.2), chose_own p.0))
      where
        by : (o : Option ℕ) → MatchOption o ((a : ℕ) → IsCandidate k.config s align (size_for asked) (unwrap_or e.choices.guard 0) a → ⊥) (IsLeastCandidate k.config s align (size_for asked) (unwrap_or e.choices.guard 0))
            → is_some o ≡ true → (a : ℕ) × IsCandidate k.config s align (size_for asked) (unwrap_or e.choices.guard 0) a
        by None m is = absurd (true≢false (sym is))
        by (Some a) m is = (a, m.fits)

    pub fault_refuses : ((chosen && some) && risen) ≡ false → (s : State) → Stands s k → Allows (terms_of k.config) s e (Allot asked align) PagesFailed → ⊥
    fault_refuses off s st h = off_on ((chosen && some) && risen) off (and_from (chosen && some) risen (and_from chosen some (own_chosen h.1) (some_is ∙ by least (at_own s st))) (risen_is.1 h.0.1))
      where
        by : (o : Option ℕ) → MatchOption o ((a : ℕ) → IsCandidate k.config s align (size_for asked) (unwrap_or e.choices.guard 0) a → ⊥) (IsLeastCandidate k.config s align (size_for asked) (unwrap_or e.choices.guard 0)) → is_some o ≡ true
        by None m = absurd (m h.0.0.0 h.0.0.1)
        by (Some a) m = refl

  -- a block was given
  module _ (a usable : ℕ) (sized placed : Bool) (sized_is : IsTrue sized ↔ (usable ≡ size)) (placed_is : IsTrue placed ↔ (least ≡ Some a)) where
    pub given_least : ((chosen && sized) && placed) ≡ true → (s : State) → Stands s k → IsLeastCandidate k.config s align (size_for asked) (unwrap_or e.choices.guard 0) a
    given_least on s st = subst (λ (o : Option ℕ). MatchOption o ((a : ℕ) → IsCandidate k.config s align (size_for asked) (unwrap_or e.choices.guard 0) a → ⊥) (IsLeastCandidate k.config s align (size_for asked) (unwrap_or e.choices.guard 0)))
        (placed_is.0 (parts3 chosen sized placed on).2) (at_own s st)

    pub given_allows : ((chosen && sized) && placed) ≡ true → (s : State) → Stands s k → Allows (terms_of k.config) s e (Allot asked align) (Given a usable)
    given_allows on s st = (let p = parts3 chosen sized placed on in ((given_least on s st, sized_is.0 p.1 ∙ size_is), chose_own p.0))

    pub given_refuses : ((chosen && sized) && placed) ≡ false → (s : State) → Stands s k → Allows (terms_of k.config) s e (Allot asked align) (Given a usable) → ⊥
    given_refuses off s st h = off_on ((chosen && sized) && placed) off (and_from (chosen && sized) placed (and_from chosen sized (own_chosen h.1) (sized_is.1 (h.0.1 ∙ sym size_is))) (placed_is.1 (by least (at_own s st))))
      where
        by : (o : Option ℕ) → MatchOption o ((a : ℕ) → IsCandidate k.config s align (size_for asked) (unwrap_or e.choices.guard 0) a → ⊥) (IsLeastCandidate k.config s align (size_for asked) (unwrap_or e.choices.guard 0)) → o ≡ Some a
        by None m = absurd (m a h.0.0.fits)
        by (Some b) m = ap Some (le_same (m.least a h.0.0.fits) (h.0.0.least b m.fits))
          where
            le_same : b ≤ a → a ≤ b → b ≡ a
            le_same x y = omega arith

    pub given_space : ((chosen && sized) && placed) ≡ true → (s : State) → Stands s k → HasSpace k.blocks a asked guard
    given_space on s st = record {
      config = k.config;
      s = s;
      align = align;
      valid = st.valid;
      shows = st.shows.blocks;
      candidate = subst (λ (g : ℕ). IsCandidate k.config s align (size_for asked) g a) (sym guard_is) (given_least on s st).fits;
    }

    pub given_shows : ((chosen && sized) && placed) ≡ true → (b : BlockBook)
        → ((c : Config) (s : State) (align : ℕ) → ShowsBlocks c s k.blocks → IsCandidate c s align (size_for asked) guard a → ShowsBlocks c (record s { live = (a, new_block asked guard) ∷ s.live }) b)
        → (s : State) → Stands s k → ShowsBlocks k.config (record s { live = (a, new_block asked (unwrap_or e.choices.guard 0)) ∷ s.live }) b
    given_shows on b inserted s st = subst (λ (g : ℕ). ShowsBlocks k.config (record s { live = (a, new_block asked g) ∷ s.live }) b) guard_is
        (inserted k.config s align st.shows.blocks (subst (λ (g : ℕ). IsCandidate k.config s align (size_for asked) g a) (sym guard_is) (given_least on s st).fits))

-- how a test that nothing was found is told
pub none_told : (o : Option ℕ) (b : Bool) → is_some o ≡ not b → b ≡ is_none o
none_told None true e = refl
none_told None false e = absurd (true≢false (sym e))
none_told (Some x) true e = absurd (true≢false e)
none_told (Some x) false e = refl
