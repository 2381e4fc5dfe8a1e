-- Entries that change live blocks where they are: writing, and a free at which a page fault occurred.
use Rattle.std.proofs.Common.{◌≡◌, ℕ, ◌<◌, ◌↔◌, Bool, true, false, ◌&&◌, List, map, length, Option, Some, None, is_some, refl, sym, ◌∙◌, ap, subst, arith, true≢false}
use Rattle.std.specs.Prelude.{IsTrue}
use Rattle.std.specs.Bool.{MatchBool}
use Rattle.std.proofs.lemmas.Bool.{and_parts, and_from}
use Rattle.hm_model.specs.declared.entry.Entry.{Entry}
use Rattle.hm_model.specs.declared.entry.Call.TheVariants.{GiveBack, Fill}
use Rattle.hm_model.specs.declared.entry.Reply.TheVariants.{PagesFailed, Filled}
use Rattle.hm_model.specs.Maps.{at, has}
use Rattle.hm_model.specs.Runs.{expand}
use Rattle.hm_sizes.specs.declared.config.Config.{Config}
use Rattle.hm_large_rules.specs.State.{Block, Blocks, covers, State, AreGuarded, IsOpen}
use Rattle.hm_large_rules.specs.Bytes.{first_trap, overlay, overlaid_blocks}
use Rattle.hm_large_rules.specs.Steps.{mark, marked}
use Rattle.hm_large_rules.specs.Draws.{stream_after}
use Rattle.hm_model.specs.Calls.{no_choices}
use Rattle.hm_large_rules.specs.Rules.{wrong_size}
use Rattle.hm_large_rules.specs.Laws.{IsSound}
use Rattle.hm_large_rules.proofs.BlockLists.{how_many_same, length_same}
use Rattle.hm_space.specs.Space.{IsFree}
use Rattle.hm_large_book.specs.declared.blocks.LiveBlock.{LiveBlock}
use Rattle.hm_large_book.specs.declared.blocks.BlockBook.{BlockBook}
use Rattle.hm_large_book.specs.declared.blocks.Extent.{Extent}
use Rattle.hm_model.specs.declared.judgement.Judgement.{Judgement}
use Rattle.hm_large_book.specs.declared.book.LargeBook.{LargeBook}
use Rattle.hm_large_book.specs.Book.{blocks_in, extent_of, Accepts, IsAccepted, Shows, Stands}
use Rattle.hm_large_book.specs.Judged.{JudgesPlain, Judges}
use Rattle.hm_large_book.proofs.Judging.{plain_judged}

-- each live block is changed, and stays where it is
shows_changed : (s : State) (k : LargeBook) (b : BlockBook) (f : ℕ × Block → ℕ × Block) (words : ℕ) → ((q : ℕ) (e : ℕ × Block) → covers q (f e) ≡ covers q e) → words ≡ s.words → Shows s k
    → blocks_in b.live.items ≡ map f s.live → b.quarantined ≡ k.blocks.quarantined → b.recent ≡ k.blocks.recent → b.space ≡ k.blocks.space → Shows (record s { live = map f s.live; words = words }) (record k { blocks = b })
shows_changed s k b f words same e h live quarantined recent space = record {
  blocks = record {
    live = live;
    quarantined = ap (λ v. v.items) quarantined ∙ h.blocks.quarantined;
    recent = ap (λ v. v.items) recent ∙ h.blocks.recent;
    space = λ q. subst (λ z. IsFree z q ↔ IsOpen k.config (record s { live = map f s.live; words = words }) q) (sym space)
        ((λ x. (((h.blocks.space q).0 x).0, omega (arith, ((h.blocks.space q).0 x).1, how_many_same (covers q) f (same q) s.live))), (λ o. (h.blocks.space q).1 (o.0, omega (arith, o.1, how_many_same (covers q) f (same q) s.live))));
    out = ap (λ z. z.out) space ∙ omega (arith, h.blocks.out, length_same f s.live);
  };
  quarantine = h.quarantine;
  indices = h.indices;
  words = h.words ∙ ap (stream_after k.seed) (sym e);
  faults = h.faults;
}

-- ---- writing
module _ (k : LargeBook) (b : BlockBook) (e : Entry) (r : Bool) (j : Judgement) (a : ℕ) (runs : List (ℕ × ℕ)) (old : List (ℕ × LiveBlock)) where
  pub filled_is : old ≡ k.blocks.live.items → b.quarantined ≡ k.blocks.quarantined → b.recent ≡ k.blocks.recent → b.space ≡ k.blocks.space
      → ((c : Config) (s : State) → IsSound c s → AreGuarded s.live → blocks_in old ≡ s.live → MatchBool r
      ((first_trap s.live a (length (expand runs)) ≡ None) × (blocks_in b.live.items ≡ overlaid_blocks a (expand runs) s.live)) (first_trap s.live a (length (expand runs)) ≡ None → ⊥))
      → JudgesPlain r e j → Judges k e (Fill a runs) Filled (record k { blocks = b }) j
  filled_is same quarantined recent space writes h =
      plain_judged k (record k { blocks = b }) e (Fill a runs) Filled r
      (λ s st x. (must _ _ r (here s st) (x.0 refl), x.1)) (λ s st holds none. ((λ told. (may _ _ r holds (here s st)).0), none)) (λ s d. d) (λ s d. d)
      (λ s st holds words is. shows_changed s k b (overlay a (expand runs)) words (λ q y. refl) is st.shows (may _ _ r holds (here s st)).1 quarantined recent space) refl refl j h
    where
      here : (s : State) → Stands s k → MatchBool r ((first_trap s.live a (length (expand runs)) ≡ None) × (blocks_in b.live.items ≡ overlaid_blocks a (expand runs) s.live)) (first_trap s.live a (length (expand runs)) ≡ None → ⊥)
      here s st = writes k.config s st.sound st.guarded (ap blocks_in same ∙ st.shows.blocks.live)

      must : (P Q : Type 0) (t : Bool) → MatchBool t P (Q → ⊥) → Q → t ≡ true
      must P Q true m q = refl
      must P Q false m q = absurd (m q)

      may : (P Q : Type 0) (t : Bool) → t ≡ true → MatchBool t P Q → P
      may P Q true holds m = m
      may P Q false holds m = absurd (true≢false (sym holds))

-- ---- a block that is accepted
pub accepts_from : (m : Blocks) (a : ℕ) (stated : Option ℕ) → has a m ≡ true → wrong_size (at a m) stated ≡ None → (x : Block) × (at a m ≡ Some x) × Accepts m a stated (extent_of x)
accepts_from m a stated live size = by (at a m) refl
  where
    by : (o : Option Block) → at a m ≡ o → (x : Block) × (at a m ≡ Some x) × Accepts m a stated (extent_of x)
    by None is = absurd (true≢false (sym live ∙ ap is_some is))
    by (Some x) is = (x, is, record { block = x; there = is; reach = refl; size = sym (ap (λ o. wrong_size o stated) is) ∙ size })

module _ (k : LargeBook) (b : BlockBook) (e : Entry) (r : Bool) (j : Judgement) (a : ℕ) (stated : Option ℕ) where
  pub free_fault_is : b.quarantined ≡ k.blocks.quarantined → b.recent ≡ k.blocks.recent → b.space ≡ k.blocks.space → blocks_in b.live.items ≡ marked a (blocks_in k.blocks.live.items)
      → IsTrue r ↔ (((extent : Extent) × Accepts (blocks_in k.blocks.live.items) a stated extent) × (e.faults_before < e.faults_after))
      → JudgesPlain r e j → Judges k e (GiveBack a stated) PagesFailed (record k { blocks = b }) j
  free_fault_is quarantined recent space live is h =
      plain_judged k (record k { blocks = b }) e (GiveBack a stated) PagesFailed r
      (λ s st x. (is.1 (accepts s st x.0 x.1, x.2), x.3)) (λ s st holds none. allows s st (is.0 holds) none) (λ s d. d) (λ s d. d)
      (λ s st holds words same. shows_changed s k b (mark a) words (λ q y. refl) same st.shows (live ∙ ap (marked a) st.shows.blocks.live) quarantined recent space) refl refl j h
    where
      accepts : (s : State) → Stands s k → has a s.live ≡ true → wrong_size (at a s.live) stated ≡ None → (extent : Extent) × Accepts (blocks_in k.blocks.live.items) a stated extent
      accepts s st there size =
          let back = sym st.shows.blocks.live in
          let found = accepts_from (blocks_in k.blocks.live.items) a stated (subst (λ (m : Blocks). has a m ≡ true) back there) (subst (λ (m : Blocks). wrong_size (at a m) stated ≡ None) back size) in
          (extent_of found.0, found.2)

      allows : (s : State) → Stands s k → ((extent : Extent) × Accepts (blocks_in k.blocks.live.items) a stated extent) × (e.faults_before < e.faults_after) → e.choices ≡ no_choices
          → (has a s.live ≡ true) × (wrong_size (at a s.live) stated ≡ None) × (e.faults_before < e.faults_after) × (e.choices ≡ no_choices)
      allows s st x none =
          let acc = x.0.1 in
          let there : at a s.live ≡ Some acc.block = subst (λ (m : Blocks). at a m ≡ Some acc.block) st.shows.blocks.live acc.there in
          (ap is_some there, ap (λ o. wrong_size o stated) there ∙ acc.size, x.1, none)

pub both_is : (k : LargeBook) (e : Entry) (a : ℕ) (stated : Option ℕ) (live : List (ℕ × LiveBlock)) (accepted risen : Bool) → live ≡ k.blocks.live.items → IsTrue accepted ↔ IsAccepted (blocks_in live) a stated
    → IsTrue risen ↔ (e.faults_before < e.faults_after)
    → IsTrue (accepted && risen) ↔ (((extent : Extent) × Accepts (blocks_in k.blocks.live.items) a stated extent) × (e.faults_before < e.faults_after))
both_is k e a stated live accepted risen same is rises =
    let own : IsTrue accepted ↔ IsAccepted (blocks_in k.blocks.live.items) a stated = subst (λ l. IsTrue accepted ↔ IsAccepted (blocks_in l) a stated) same is in
    ((λ t. (let p = and_parts accepted risen t in (own.0 p.0, rises.0 p.1))), (λ h. and_from accepted risen (own.1 h.0) (rises.1 h.1)))
