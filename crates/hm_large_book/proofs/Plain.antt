-- Entries that choose nothing and draw no word, call by call and reply by reply.
use Rattle.std.proofs.Common.{◌≡◌, ℕ, Bool, true, false, not, List, length, Option, Some, None, option_map, refl, sym, ◌∙◌, ap, subst}
use Rattle.std.specs.Prelude.{IsTrue, ◌↔◌}
use Rattle.hm_model.specs.declared.entry.Entry.{Entry}
use Rattle.hm_model.specs.declared.entry.Call.TheVariants.{GiveBack, Measure, Fetch, Fill}
use Rattle.hm_model.specs.declared.entry.Reply.TheVariants.{WrongSize, NotLive, Usable, Bytes, Trap}
use Rattle.hm_model.specs.Maps.{at, has}
use Rattle.hm_model.specs.Runs.{expand}
use Rattle.hm_sizes.specs.declared.config.Config.{Config}
use Rattle.hm_large_rules.specs.State.{Block, Blocks, State, AreGuarded}
use Rattle.hm_large_rules.specs.Bytes.{first_trap, bytes_read}
use Rattle.hm_large_rules.specs.Rules.{wrong_size}
use Rattle.hm_large_rules.specs.Laws.{IsSound}
use Rattle.hm_large_book.specs.declared.blocks.LiveBlock.{LiveBlock}
use Rattle.hm_model.specs.declared.judgement.Judgement.{Judgement}
use Rattle.hm_large_book.specs.declared.book.LargeBook.{LargeBook}
use Rattle.hm_large_book.specs.Book.{blocks_in, Shows, Stands}
use Rattle.hm_large_book.specs.Judged.{JudgesPlain, Judges}
use Rattle.hm_large_book.proofs.Judging.{shows_words, plain_judged}

not_yes : (r : Bool) → r ≡ false → not r ≡ true
not_yes r e = ap not e

not_no : (r : Bool) → not r ≡ true → r ≡ false
not_no true e = sym e
not_no false e = refl

module _ (k : LargeBook) (e : Entry) (r : Bool) (j : Judgement) (live : List (ℕ × LiveBlock)) (same : live ≡ k.blocks.live.items) where
  -- what is said of the list is said of the state
  pub in_state : (s : State) → Stands s k → blocks_in live ≡ s.live
  in_state s st = ap blocks_in same ∙ st.shows.blocks.live

  stays : (s : State) → Stands s k → IsTrue r → (words : ℕ) → words ≡ s.words → Shows (record s { words = words }) k
  stays s st holds words e = shows_words s k words e st.shows

  pub measured_none_is : (a : ℕ) → r ≡ has a (blocks_in live) → JudgesPlain (not r) e j → Judges k e (Measure a) NotLive k j
  measured_none_is a is h =
      plain_judged k k e (Measure a) NotLive (not r) (λ s st x. (not_yes r (here s st ∙ x.0), x.1)) (λ s st holds none. (sym (here s st) ∙ not_no r holds, none)) (λ s d. d) (λ s d. d)
      (λ s st holds words e. shows_words s k words e st.shows) refl refl j h
    where
      here : (s : State) → Stands s k → r ≡ has a s.live
      here s st = is ∙ ap (has a) (in_state s st)

  pub freed_none_is : (a : ℕ) (stated : Option ℕ) → r ≡ has a (blocks_in live) → JudgesPlain (not r) e j → Judges k e (GiveBack a stated) NotLive k j
  freed_none_is a stated is h =
      plain_judged k k e (GiveBack a stated) NotLive (not r) (λ s st x. (not_yes r (here s st ∙ x.0), x.1)) (λ s st holds none. (sym (here s st) ∙ not_no r holds, none)) (λ s d. d) (λ s d. d)
      (λ s st holds words e. shows_words s k words e st.shows) refl refl j h
    where
      here : (s : State) → Stands s k → r ≡ has a s.live
      here s st = is ∙ ap (has a) (in_state s st)

  pub measured_is : (a size : ℕ) → IsTrue r ↔ (option_map (λ (b : Block). b.size) (at a (blocks_in live)) ≡ Some size) → JudgesPlain r e j → Judges k e (Measure a) (Usable size) k j
  measured_is a size is h =
      plain_judged k k e (Measure a) (Usable size) r (λ s st x. ((here s st).1 x.0, x.1)) (λ s st holds none. ((here s st).0 holds, none)) (λ s d. d) (λ s d. d) stays refl refl j h
    where
      here : (s : State) → Stands s k → IsTrue r ↔ (option_map (λ (b : Block). b.size) (at a s.live) ≡ Some size)
      here s st = subst (λ (m : Blocks). IsTrue r ↔ (option_map (λ (b : Block). b.size) (at a m) ≡ Some size)) (in_state s st) is

  pub freed_wrong_is : (a : ℕ) (stated : Option ℕ) (block other : ℕ) → IsTrue r ↔ (wrong_size (at a (blocks_in live)) stated ≡ Some (block, other)) → JudgesPlain r e j → Judges k e (GiveBack a stated) (WrongSize block other) k j
  freed_wrong_is a stated block other is h =
      plain_judged k k e (GiveBack a stated) (WrongSize block other) r (λ s st x. ((here s st).1 x.0, x.1)) (λ s st holds none. ((here s st).0 holds, none)) (λ s d. d) (λ s d. d) stays refl refl j h
    where
      here : (s : State) → Stands s k → IsTrue r ↔ (wrong_size (at a s.live) stated ≡ Some (block, other))
      here s st = subst (λ (m : Blocks). IsTrue r ↔ (wrong_size (at a m) stated ≡ Some (block, other))) (in_state s st) is

  pub fetched_is : (a len : ℕ) (runs : List (ℕ × ℕ)) → ((c : Config) (s : State) → IsSound c s → AreGuarded s.live → blocks_in live ≡ s.live
      → IsTrue r ↔ ((length (expand runs) ≡ len) × (first_trap s.live a len ≡ None) × (expand runs ≡ bytes_read s.live a len))) → JudgesPlain r e j → Judges k e (Fetch a len) (Bytes runs) k j
  fetched_is a len runs is h =
      plain_judged k k e (Fetch a len) (Bytes runs) r (λ s st x. ((here s st).1 (x.0, (x.1 refl).0, (x.1 refl).1), x.2)) (λ s st holds none. (let y = (here s st).0 holds in (y.0, (λ told. (y.1, y.2)), none))) (λ s d. d) (λ s d. d) stays refl refl j h
    where
      here : (s : State) → Stands s k → IsTrue r ↔ ((length (expand runs) ≡ len) × (first_trap s.live a len ≡ None) × (expand runs ≡ bytes_read s.live a len))
      here s st = is k.config s st.sound st.guarded (in_state s st)

  pub fetch_trapped_is : (a len q : ℕ) → ((s : State) → Stands s k → IsTrue r ↔ (first_trap s.live a len ≡ Some q)) → JudgesPlain r e j → Judges k e (Fetch a len) (Trap q) k j
  fetch_trapped_is a len q is h =
      plain_judged k k e (Fetch a len) (Trap q) r (λ s st x. ((is s st).1 (x.0 refl), x.1)) (λ s st holds none. ((λ told. (is s st).0 holds), none)) (λ s d. d) (λ s d. d) stays refl refl j h

  pub fill_trapped_is : (a q : ℕ) (runs : List (ℕ × ℕ)) → ((s : State) → Stands s k → IsTrue r ↔ (first_trap s.live a (length (expand runs)) ≡ Some q)) → JudgesPlain r e j → Judges k e (Fill a runs) (Trap q) k j
  fill_trapped_is a q runs is h =
      plain_judged k k e (Fill a runs) (Trap q) r (λ s st x. ((is s st).1 (x.0 refl), x.1)) (λ s st holds none. ((λ told. (is s st).0 holds), none)) (λ s d. d) (λ s d. d) stays refl refl j h
