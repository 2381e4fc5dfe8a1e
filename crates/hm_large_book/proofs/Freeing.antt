-- Entries of a block that was taken back.
use Rattle.std.proofs.Common.{◌≡◌, ℕ, suc, ◌+◌, ◌<◌, ◌≤◌, Bool, true, false, cond, List, ◌∷◌, length, Option, Some, None, is_some, refl, sym, ◌∙◌, ap, subst, arith, true≢false}
use Rattle.std.specs.Bool.{MatchBool}
use Rattle.std.proofs.lemmas.Bool.{lt-ltb, le-ltb}
use Rattle.hm_choice.specs.Stream.{Words, next_word, after_word, drawn}
use Rattle.hm_model.specs.declared.entry.Entry.{Entry}
use Rattle.hm_model.specs.declared.entry.Draws.{Draws}
use Rattle.hm_model.specs.declared.entry.Call.TheVariants.{GiveBack}
use Rattle.hm_model.specs.declared.entry.Reply.TheVariants.{Freed}
use Rattle.hm_model.specs.Calls.{no_choices, no_words, one_word}
use Rattle.hm_model.specs.Maps.{at, has, removed}
use Rattle.hm_quarantine.specs.Quarantine.{IsArrayIndex, Kept, let_go, kept_with}
use Rattle.hm_quarantine.specs.LookingBack.{released, AreIndices, kept_after}
use Rattle.hm_quarantine.proofs.Passes.{looks_back, length_array}
use Rattle.hm_sizes.specs.declared.config.Config.{Config}
use Rattle.hm_large_rules.specs.Laws.{IsSound}
use Rattle.hm_large_rules.proofs.Legal.{sound_takes_back}
use Rattle.hm_large_rules.specs.State.{Block, Blocks, is_quarantined, State, array_length, ring_length, quarantined_below}
use Rattle.hm_large_rules.specs.Steps.{takes_back, releases, free_at}
use Rattle.hm_large_rules.specs.Rules.{ReleasesFor, Releases, AllowsFreed, wrong_size}
use Rattle.hm_large_rules.specs.Draws.{stream_after, word_at}
use Rattle.hm_large_rules.specs.Drawn.{IsDrawnFree}
use Rattle.hm_model.specs.declared.judgement.Judgement.{Judgement}
use Rattle.hm_model.specs.declared.judgement.Judgement.TheVariants.{Taken, NotLegal, NotDrawn}
use Rattle.hm_large_book.specs.declared.book.LargeBook.{LargeBook}
use Rattle.hm_large_book.specs.declared.blocks.BlockBook.{BlockBook}
use Rattle.hm_large_book.specs.declared.blocks.Extent.{Extent}
use Rattle.hm_large_book.specs.Book.{blocks_in, extent_of, Accepts, ShowsBlocks, Shows, Stands}
use Rattle.hm_large_book.specs.Changes.{IsShown, IsLive}
use Rattle.hm_large_book.specs.Freed.{IsFreeJudged, JudgesFree}
use Rattle.hm_large_book.specs.Judged.{IsJudged, Judges}
use Rattle.hm_large_book.proofs.Judging.{blocks_words}
use Rattle.hm_large_book.proofs.Written.{accepts_from}

-- ---- from the block to the state
module _ (k : LargeBook) (e : Entry) (a : ℕ) (stated : Option ℕ) (live : List _) (same : live ≡ k.blocks.live.items) where
  in_state : (s : State) → Stands s k → blocks_in live ≡ s.live
  in_state s st = ap blocks_in same ∙ st.shows.blocks.live

  -- no block is accepted
  pub not_accepted : (new : LargeBook) → new.config ≡ k.config → new.seed ≡ k.seed → ((extent : Extent) → Accepts (blocks_in live) a stated extent → ⊥) → Judges k e (GiveBack a stated) Freed new NotLegal
  not_accepted new config seed none = record {
    judged = λ s st f. (let back = sym (in_state s st) in
        let found = accepts_from (blocks_in live) a stated (subst (λ (m : Blocks). has a m ≡ true) back f.block) (subst (λ (m : Blocks). wrong_size (at a m) stated ≡ None) back f.size) in
        none (extent_of found.0) found.2);
    config_same = config;
    seed_same = seed;
  }

  pub not_chosen : (new : LargeBook) → new.config ≡ k.config → new.seed ≡ k.seed → (e.choices ≡ record no_choices { released = e.choices.released } → ⊥) → Judges k e (GiveBack a stated) Freed new NotLegal
  not_chosen new config seed none = record { judged = λ s st f. none f.choices; config_same = config; seed_same = seed }

  module _ (extent : Extent) (acc : Accepts (blocks_in live) a stated extent) where
    there_in : (s : State) → Stands s k → at a s.live ≡ Some acc.block
    there_in s st = subst (λ (m : Blocks). at a m ≡ Some acc.block) (in_state s st) acc.there

    pub live_in : (s : State) → Stands s k → IsLive k.blocks a extent
    live_in s st = record {
      shown = record { config = k.config; s = s; valid = st.valid; sound = st.sound; shows = st.shows.blocks };
      block = acc.block;
      there = there_in s st;
      reach = acc.reach;
    }

    pub freed_is : (new : LargeBook) (j : Judgement) → e.choices ≡ record no_choices { released = e.choices.released } → JudgesFree k e a extent new j → Judges k e (GiveBack a stated) Freed new j
    freed_is new j chose h = record { judged = λ s st. by j s st (h.judged s acc.block st (there_in s st) acc.reach); config_same = h.config_same; seed_same = h.seed_same }
      where
        released_in : (s : State) → Stands s k → ReleasesFor (Some acc.block) (takes_back a e.draws.w0 (Some acc.block) s) e.choices.released → AllowsFreed s e.draws.w0 e.choices a stated
        released_in s st r = record {
          block = ap is_some (there_in s st);
          size = ap (λ o. wrong_size o stated) (there_in s st) ∙ acc.size;
          release = subst (λ (o : Option Block). ReleasesFor o (takes_back a e.draws.w0 o s) e.choices.released) (sym (there_in s st)) r;
          choices = chose;
        }

        by : (j : Judgement) (s : State) → Stands s k → IsFreeJudged k s e a acc.block new j → IsJudged k s e (GiveBack a stated) Freed new j
        by Taken s st f = (
          released_in s st f.0,
          subst (IsDrawnFree k.seed s a e) (sym (there_in s st)) f.1,
          subst (λ (o : Option Block). Shows (record (releases e.choices.released (takes_back a e.draws.w0 o s)) { words = e.draws.used + s.words }) new) (sym (there_in s st)) f.2,
        )
        by NotLegal s st f = λ x. f (subst (λ (o : Option Block). ReleasesFor o (takes_back a e.draws.w0 o s) e.choices.released) (there_in s st) x.release)
        by NotDrawn s st f = (released_in s st f.0, λ x. f.1 (subst (IsDrawnFree k.seed s a e) (there_in s st) x))

-- ---- a block that does not go into quarantine
great_is : (extent : Extent) (x : Block) → extent ≡ extent_of x → quarantined_below ≤ extent.size → is_quarantined x ≡ false
great_is extent x reach great = le-ltb x.size quarantined_below (omega (arith, great, ap (λ (r : Extent). r.size) reach))

pub small_is : (extent : Extent) (x : Block) → extent ≡ extent_of x → extent.size < quarantined_below → is_quarantined x ≡ true
small_is extent x reach small = lt-ltb x.size quarantined_below (omega (arith, small, ap (λ (r : Extent). r.size) reach))

at_false : (P Q : Type 0) (t : Bool) → t ≡ false → Q → MatchBool t P Q
at_false P Q t is q = subst (λ (b : Bool). MatchBool b P Q) (sym is) q

of_false : (P Q : Type 0) (t : Bool) → t ≡ false → MatchBool t P Q → Q
of_false P Q t is m = subst (λ (b : Bool). MatchBool b P Q) is m

at_true : (P Q : Type 0) (t : Bool) → t ≡ true → P → MatchBool t P Q
at_true P Q t is p = subst (λ (b : Bool). MatchBool b P Q) (sym is) p

of_true : (P Q : Type 0) (t : Bool) → t ≡ true → MatchBool t P Q → P
of_true P Q t is m = subst (λ (b : Bool). MatchBool b P Q) is m

module _ (k : LargeBook) (e : Entry) (a : ℕ) (extent : Extent) (great : quarantined_below ≤ extent.size) where
  pub great_taken : (b : BlockBook) → e.choices.released ≡ None → e.draws ≡ no_words
      → ((s : State) (x : Block) → Stands s k → at a s.live ≡ Some x → extent ≡ extent_of x → ShowsBlocks k.config (record s { live = removed a s.live }) b)
      → JudgesFree k e a extent (record k { blocks = b }) Taken
  great_taken b none drawn shows = record {
    judged = λ s x st there reach. (
      at_false _ _ _ (great_is extent x reach great) none,
      at_false _ _ _ (great_is extent x reach great) drawn,
      subst (λ (z : State). Shows (record z { words = e.draws.used + s.words }) (record k { blocks = b })) (sym (after s x (great_is extent x reach great))) (record {
        blocks = blocks_words k.config (record s { live = removed a s.live }) b (e.draws.used + s.words) (shows s x st there reach);
        quarantine = st.shows.quarantine;
        indices = st.shows.indices;
        words = st.shows.words ∙ ap (stream_after k.seed) {x = s.words} {y = e.draws.used + s.words} (omega (arith, ap (λ (d : Draws). d.used) drawn));
        faults = st.shows.faults;
      }),
    );
    config_same = refl;
    seed_same = refl;
  }
    where
      after : (s : State) (x : Block) → is_quarantined x ≡ false → releases e.choices.released (takes_back a e.draws.w0 (Some x) s) ≡ record s { live = removed a s.live }
      after s x is = ap (λ o. releases o (takes_back a e.draws.w0 (Some x) s)) none
          ∙ ap (λ t. cond t (record s { live = removed a s.live; quarantined = (a, x) ∷ s.quarantined; frees = free_at a e.draws.w0 ∷ s.frees }) (record s { live = removed a s.live })) is

-- ---- a block that goes into quarantine
-- what the state is but for its blocks
pub same_rest : (r : Option ℕ) (s : State) (a word : ℕ) (x : Block) → is_quarantined x ≡ true
    → ((releases r (takes_back a word (Some x) s)).frees ≡ free_at a word ∷ s.frees) × ((releases r (takes_back a word (Some x) s)).faults ≡ s.faults)
same_rest r s a word x is =
    subst (λ (z : State). ((releases r z).frees ≡ free_at a word ∷ s.frees) × ((releases r z).faults ≡ s.faults))
    (sym (ap (λ t. cond t (record s { live = removed a s.live; quarantined = (a, x) ∷ s.quarantined; frees = free_at a word ∷ s.frees }) (record s { live = removed a s.live })) is)) (by r)
  where
    by : (r : Option ℕ) → ((releases r (record s { live = removed a s.live; quarantined = (a, x) ∷ s.quarantined; frees = free_at a word ∷ s.frees })).frees ≡ free_at a word ∷ s.frees)
        × ((releases r (record s { live = removed a s.live; quarantined = (a, x) ∷ s.quarantined; frees = free_at a word ∷ s.frees })).faults ≡ s.faults)
    by None = (refl, refl)
    by (Some b) = (refl, refl)

module _ (k : LargeBook) (e : Entry) (a : ℕ) (extent : Extent) (small : extent.size < quarantined_below) where
  pub small_not_legal : (new : LargeBook) → new.config ≡ k.config → new.seed ≡ k.seed
      → ((s : State) (x : Block) → Stands s k → at a s.live ≡ Some x → extent ≡ extent_of x → Releases (takes_back a e.draws.w0 (Some x) s) e.choices.released → ⊥)
      → JudgesFree k e a extent new NotLegal
  small_not_legal new config seed none = record { judged = λ s x st there reach r. none s x st there reach (of_true _ _ _ (small_is extent x reach small) r); config_same = config; seed_same = seed }

  -- the word that comes next, and what the quarantine lets go
  module _ (both : ℕ × ℕ) (left : Option ℕ) (drawn_is : both ≡ (next_word k.words, drawn array_length (next_word k.words))) (below : both.1 < array_length) (left_is : left ≡ let_go k.quarantine a both.1) where
    index_is : both.1 ≡ drawn array_length both.0
    index_is = ap (λ (p : ℕ × ℕ). p.1) drawn_is ∙ sym (ap (λ (p : ℕ × ℕ). drawn array_length p.0) drawn_is)

    word_is : (s : State) → Stands s k → both.0 ≡ word_at k.seed s.words
    word_is s st = ap (λ (p : ℕ × ℕ). p.0) drawn_is ∙ ap next_word st.shows.words

    indices : (s : State) → Stands s k → AreIndices array_length (free_at a both.0 ∷ s.frees)
    indices s st = (subst (λ (p : ℕ). p < array_length) index_is below, st.shows.indices)

    released_is : (s : State) → Stands s k → left ≡ released array_length ring_length s.frees (free_at a (word_at k.seed s.words))
    released_is s st = left_is ∙ ap (λ (z : Kept). let_go z a both.1) st.shows.quarantine ∙ ap (λ p. let_go (kept_after array_length ring_length s.frees) a p) index_is
        ∙ looks_back array_length ring_length s.frees (free_at a both.0) (indices s st) ∙ ap (λ w. released array_length ring_length s.frees (free_at a w)) (word_is s st)

    pub small_not_drawn : (new : LargeBook) → new.config ≡ k.config → new.seed ≡ k.seed
        → ((s : State) (x : Block) → Stands s k → at a s.live ≡ Some x → extent ≡ extent_of x → Releases (takes_back a e.draws.w0 (Some x) s) e.choices.released)
        → (e.draws ≡ one_word both.0 → left ≡ e.choices.released → ⊥) → JudgesFree k e a extent new NotDrawn
    small_not_drawn new config seed legal other = record {
      judged = λ s x st there reach. (let is = small_is extent x reach small in
          (at_true _ _ _ is (legal s x st there reach), λ d. (let f = of_true _ _ _ is d in other (f.0 ∙ ap one_word (sym (word_is s st))) (released_is s st ∙ sym f.1))));
      config_same = config;
      seed_same = seed;
    }

    pub small_taken : (b : BlockBook) (quarantine : Kept) (words : Words) → quarantine ≡ kept_with k.quarantine a both.1 → words ≡ after_word k.words
        → ((s : State) (x : Block) → Stands s k → at a s.live ≡ Some x → extent ≡ extent_of x
        → Releases (takes_back a e.draws.w0 (Some x) s) e.choices.released × ShowsBlocks k.config (releases e.choices.released (takes_back a e.draws.w0 (Some x) s)) b)
        → e.draws ≡ one_word both.0 → left ≡ e.choices.released → JudgesFree k e a extent (record k { blocks = b; quarantine = quarantine; words = words }) Taken
    small_taken b quarantine words keeps took facts draws chose = record {
      judged = λ s x st there reach. (let is = small_is extent x reach small in
          let f = facts s x st there reach in
          let rest = same_rest e.choices.released s a e.draws.w0 x is in
          let first : e.draws.w0 ≡ both.0 = ap (λ (d : Draws). d.w0) draws in
          let frees : (releases e.choices.released (takes_back a e.draws.w0 (Some x) s)).frees ≡ free_at a both.0 ∷ s.frees = rest.0 ∙ ap (λ w. free_at a w ∷ s.frees) first in (
            at_true _ _ _ is f.0,
            at_true _ _ _ is (draws ∙ ap one_word (word_is s st), sym chose ∙ released_is s st),
            record {
              blocks = blocks_words k.config (releases e.choices.released (takes_back a e.draws.w0 (Some x) s)) b (e.draws.used + s.words) f.1;
              quarantine = keeps ∙ (λ i. kept_with (st.shows.quarantine i) a (index_is i)) ∙ ap (kept_after array_length ring_length) (sym frees);
              indices = subst (AreIndices array_length) (sym frees) (indices s st);
              words = took ∙ ap after_word st.shows.words ∙ ap (stream_after k.seed) {x = suc s.words} {y = e.draws.used + s.words} (omega (arith, ap (λ (d : Draws). d.used) draws));
              faults = st.shows.faults ∙ sym rest.1;
            },
          ));
      config_same = refl;
      seed_same = refl;
    }

-- ---- holding the block, and letting go of another
abbrev pub Holding : BlockBook → BlockBook → ℕ → Extent → Type 0
Holding old b a extent = (c : Config) (s : State) (x : Block) (word : ℕ) → IsSound c s → ShowsBlocks c s old → at a s.live ≡ Some x → extent ≡ extent_of x → is_quarantined x ≡ true → ShowsBlocks c (takes_back a word (Some x) s) b

abbrev pub Releasing : BlockBook → BlockBook → Bool → Option ℕ → Type 0
Releasing b new r released = (c : Config) (s : State) → IsSound c s → ShowsBlocks c s b → MatchBool r (Releases s released × ShowsBlocks c (releases released s) new) (Releases s released → ⊥)

pub quarantined_shown : (old b : BlockBook) (a : ℕ) (extent : Extent) → IsLive old a extent → extent.size < quarantined_below → Holding old b a extent → IsShown b
quarantined_shown old b a extent h small holding =
    let sh = h.shown in
    record {
      config = sh.config;
      s = takes_back a 0 (Some h.block) sh.s;
      valid = sh.valid;
      sound = sound_takes_back sh.config sh.s a 0 (Some h.block) h.there sh.sound;
      shows = holding sh.config sh.s h.block 0 sh.sound sh.shows h.there h.reach (small_is extent h.block h.reach small);
    }

module _ (k : LargeBook) (b new : BlockBook) (a word : ℕ) (extent : Extent) (r : Bool) (released : Option ℕ) (small : extent.size < quarantined_below) (holding : Holding k.blocks b a extent) (releasing : Releasing b new r released) where
  after : (s : State) (x : Block) → Stands s k → at a s.live ≡ Some x → extent ≡ extent_of x
      → MatchBool r (Releases (takes_back a word (Some x) s) released × ShowsBlocks k.config (releases released (takes_back a word (Some x) s)) new) (Releases (takes_back a word (Some x) s) released → ⊥)
  after s x st there reach = releasing k.config (takes_back a word (Some x) s) (sound_takes_back k.config s a word (Some x) there st.sound)
      (holding k.config s x word st.sound st.shows.blocks there reach (small_is extent x reach small))

  pub may_not : r ≡ false → (s : State) (x : Block) → Stands s k → at a s.live ≡ Some x → extent ≡ extent_of x → Releases (takes_back a word (Some x) s) released → ⊥
  may_not off s x st there reach = subst (λ (t : Bool). MatchBool t (Releases (takes_back a word (Some x) s) released × ShowsBlocks k.config (releases released (takes_back a word (Some x) s)) new) (Releases (takes_back a word (Some x) s) released → ⊥)) off (after s x st there reach)

  pub may : r ≡ true → (s : State) (x : Block) → Stands s k → at a s.live ≡ Some x → extent ≡ extent_of x → Releases (takes_back a word (Some x) s) released × ShowsBlocks k.config (releases released (takes_back a word (Some x) s)) new
  may on s x st there reach = subst (λ (t : Bool). MatchBool t (Releases (takes_back a word (Some x) s) released × ShowsBlocks k.config (releases released (takes_back a word (Some x) s)) new) (Releases (takes_back a word (Some x) s) released → ⊥)) on (after s x st there reach)

-- the index is one of the array
pub is_index : (s : State) (k : LargeBook) (index : ℕ) → Stands s k → index < array_length → IsArrayIndex (length k.quarantine.array) index
is_index s k index st below = subst (λ (n : ℕ). IsArrayIndex n index) (sym (ap (λ (q : Kept). length q.array) st.shows.quarantine ∙ length_array array_length ring_length s.frees)) below

pub off_on : (b : Bool) → b ≡ false → b ≡ true → ⊥
off_on b off on = true≢false (sym on ∙ off)

pub none_left : (o : Option ℕ) (b : Bool) → b ≡ is_some o → b ≡ false → o ≡ None
none_left None b is off = refl
none_left (Some x) b is off = absurd (true≢false (sym is ∙ off))
