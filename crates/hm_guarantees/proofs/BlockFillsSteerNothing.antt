-- What is written to large blocks steers nothing.
use Rattle.std.proofs.Common.{◌≡◌, ⊎_elim, ℕ, ◌+◌, true, false, nat_lt, List, [], ◌∷◌, map, length, Option, Some, None, unwrap_or, sym, ◌∙◌, ap, subst, refl}
use Rattle.std.specs.Prelude.{IsTrue, ⊤}
use Rattle.std.specs.Bool.{MatchBool}
use Rattle.std.proofs.lemmas.Option.{none-some, same_Some}
use Rattle.hm_quarantine.specs.LookingBack.{released}
use Rattle.hm_model.specs.declared.entry.Entry.{Entry}
use Rattle.hm_model.specs.declared.entry.Call.{Call}
use Rattle.hm_model.specs.declared.entry.Call.TheVariants.{Allot, GiveBack, Measure, Fetch, Fill}
use Rattle.hm_model.specs.declared.entry.Reply.{Reply}
use Rattle.hm_model.specs.declared.entry.Reply.TheVariants.{Given, PagesFailed, Freed, Bytes, Filled, Trap}
use Rattle.hm_model.specs.Calls.{no_choices, no_words, one_word}
use Rattle.hm_model.specs.Machine.{Legal}
use Rattle.hm_model.specs.Maps.{at}
use Rattle.hm_model.specs.Runs.{expand}
use Rattle.hm_large_rules.specs.State.{Block, size_for, State, start, array_length, ring_length}
use Rattle.hm_large_rules.specs.Draws.{guard_of, word_at}
use Rattle.hm_large_rules.specs.Steps.{new_block, takes_back, releases, free_at, changed, step}
use Rattle.hm_large_rules.specs.Bytes.{first_trap}
use Rattle.hm_large_rules.specs.Drawn.{IsDrawnFree, IsDrawnEvent, IsDrawnEntry}
use Rattle.hm_model.specs.Replies.{is_page_fault, HasRuns}
use Rattle.hm_large_rules.specs.Rules.{Terms, Allows, Allowed}
use Rattle.hm_large_rules.proofs.SameEntry.{one_next as one_large}
use Rattle.hm_guarantees.specs.FillsSteerNothing.{unread, outcome_of}
use Rattle.hm_guarantees.specs.SameLargeTurns.{AskSame, AllAskSame, BlockFillsSteerNothing}
use Rattle.hm_guarantees.proofs.AlikeBlocks.{AlikeFound, own_block, blocks_at, blocks_marked, blocks_written, trap_same, AlikeStates, back_states, back_alike, releases_alike, ReadsAlike, allows_same}

record SameOutcome (e f : Entry) (r q : Reply) : Type 0 where
  replies : unread r ≡ unread q
  choices : e.choices ≡ f.choices
  draws : e.draws ≡ f.draws

abbrev IsNoRead : Call → Type 0
IsNoRead (Fetch a len) = ⊥
IsNoRead call = ⊤

no_bytes : (t : Terms) (s : State) (e : Entry) (call : Call) (r : Reply) → IsNoRead call → Allows t s e call r → HasRuns r
no_bytes t s e (Allot asked align) (Bytes runs) h x = absurd x
no_bytes t s e (GiveBack a stated) (Bytes runs) h x = absurd x
no_bytes t s e (Measure a) (Bytes runs) h x = absurd x
no_bytes t s e (Fetch a len) (Bytes runs) h x = absurd h
no_bytes t s e (Fill a runs) (Bytes others) h x = absurd x
no_bytes t s e call r h x = tt

reads_alike : (s s' : State) (call : Call) → IsNoRead call → ReadsAlike s s' call
reads_alike s s' (Fetch a len) none = absurd none
reads_alike s s' call none = tt

-- the same words, where they are alike
free_drawn : (seed : ℕ) (s s' : State) (a : ℕ) (e : Entry) (o q : Option Block) → AlikeFound o q → s.frees ≡ s'.frees → s.words ≡ s'.words → IsDrawnFree seed s a e o → IsDrawnFree seed s' a e q
free_drawn seed s s' a e None q found frees words h = absurd h
free_drawn seed s s' a e (Some x) None found frees words h = absurd found
free_drawn seed s s' a e (Some x) (Some y) found frees words h =
    subst (λ (n : ℕ). MatchBool (nat_lt n 33554432) ((e.draws ≡ one_word (word_at seed s'.words)) × (e.choices.released ≡ released array_length ring_length s'.frees (free_at a (word_at seed s'.words)))) (e.draws ≡ no_words)) found.0
    ((elim (nat_lt x.size 33554432) as (λ t. MatchBool t ((e.draws ≡ one_word (word_at seed s.words)) × (e.choices.released ≡ released array_length ring_length s.frees (free_at a (word_at seed s.words)))) (e.draws ≡ no_words)
    → MatchBool t ((e.draws ≡ one_word (word_at seed s'.words)) × (e.choices.released ≡ released array_length ring_length s'.frees (free_at a (word_at seed s'.words)))) (e.draws ≡ no_words)) [
      | true ↦ λ d. (d.0 ∙ ap (λ (n : ℕ). one_word (word_at seed n)) words, d.1 ∙ (λ i. released array_length ring_length (frees i) (free_at a (word_at seed (words i)))))
      | false ↦ λ d. d
    ]) h)

drawn_there : (seed : ℕ) (s s' : State) (e : Entry) (call : Call) (reply : Reply) → AlikeStates s s' → s.words ≡ s'.words → IsDrawnEvent seed s e call reply → IsDrawnEvent seed s' e call reply
drawn_there seed s s' e (Allot asked align) reply h words d =
    (d.0 ∙ ap (λ (n : ℕ). one_word (word_at seed n)) words, d.1 ∙ ap (λ (n : ℕ). Some (guard_of (size_for asked) (word_at seed n))) words)
drawn_there seed s s' e (GiveBack a stated) Freed h words d = free_drawn seed s s' a e (at a s.live) (at a s'.live) (blocks_at a s.live s'.live h.live) h.frees words d
drawn_there seed s s' e call reply h words d = d

-- ---- two entries that ask the same
module _ (seed : ℕ) (t : Terms) (s s' : State) (told : IsTrue t.told) (h : AlikeStates s s') (words : s.words ≡ s'.words) (faults : s.faults ≡ s'.faults) (d e : Entry) where
  one : IsNoRead d.call → d.who ≡ e.who → d.call ≡ e.call → d.faults_after ≡ e.faults_after → is_page_fault d.reply ≡ is_page_fault e.reply → Allowed t s d → IsDrawnEntry seed s d → Allowed t s' e → IsDrawnEntry seed s' e → d ≡ e
  one none who call after page_fault x y z w =
      let none' : IsNoRead e.call = subst (λ (k : Call). IsNoRead k) call none in
      one_large seed t s d e told
      (record { allowed = x; drawn = y; runs = no_bytes t s d d.call d.reply none x.allows })
      (record {
        allowed = record {
          draws = z.draws;
          asks = z.asks;
          follows = z.follows ∙ sym faults;
          later = z.later;
          allows = allows_same t s' s e e.call e.reply (back_states s s' h) (reads_alike s' s e.call none') z.allows;
        };
        drawn = drawn_there seed s' s e e.call e.reply (back_states s s' h) (sym words) w;
        runs = no_bytes t s' e e.call e.reply none' z.allows;
      })
      who call after page_fault

  from_one : d ≡ e → SameOutcome d e d.reply e.reply
  from_one same = record { replies = ap (λ (x : Entry). unread x.reply) same; choices = ap (λ (x : Entry). x.choices) same; draws = ap (λ (x : Entry). x.draws) same }

  plain : (r q : Reply) → unread r ≡ unread q → d.choices ≡ no_choices → e.choices ≡ no_choices → d.draws ≡ no_words → e.draws ≡ no_words → SameOutcome d e r q
  plain r q same a b c f = record { replies = same; choices = a ∙ sym b; draws = c ∙ sym f }

  fetches : (a len : ℕ) (r q : Reply) → Allows t s d (Fetch a len) r → Allows t s' e (Fetch a len) q → d.draws ≡ no_words → e.draws ≡ no_words → SameOutcome d e r q
  fetches a len (Bytes xs) (Bytes ys) x y c f = plain (Bytes xs) (Bytes ys) refl x.2 y.2 c f
  fetches a len (Bytes xs) (Trap q) x y c f = absurd (none-some q (sym (x.1 told).0 ∙ trap_same s.live s'.live a len h.live ∙ y.0 told))
  fetches a len (Trap r) (Bytes ys) x y c f = absurd (none-some r (sym (y.1 told).0 ∙ sym (trap_same s.live s'.live a len h.live) ∙ x.0 told))
  fetches a len (Trap r) (Trap q) x y c f = plain (Trap r) (Trap q) (ap (λ (n : ℕ). Trap n) (same_Some r q (sym (x.0 told) ∙ trap_same s.live s'.live a len h.live ∙ y.0 told))) x.1 y.1 c f
  fetches a len (Bytes xs) q x y c f = absurd y
  fetches a len (Trap r) q x y c f = absurd y
  fetches a len r q x y c f = absurd x

  trap_other : (a : ℕ) (runs others : List (ℕ × ℕ)) → length (expand others) ≡ length (expand runs) → first_trap s.live a (length (expand runs)) ≡ first_trap s'.live a (length (expand others))
  trap_other a runs others count = trap_same s.live s'.live a (length (expand runs)) h.live ∙ ap (λ (n : ℕ). first_trap s'.live a n) (sym count)

  fills : (a : ℕ) (runs others : List (ℕ × ℕ)) (r q : Reply) → length (expand others) ≡ length (expand runs) → Allows t s d (Fill a runs) r → Allows t s' e (Fill a others) q → d.draws ≡ no_words → e.draws ≡ no_words → SameOutcome d e r q
  fills a runs others Filled Filled count x y c f = plain Filled Filled refl x.1 y.1 c f
  fills a runs others Filled (Trap q) count x y c f = absurd (none-some q (sym (x.0 told) ∙ trap_other a runs others count ∙ y.0 told))
  fills a runs others (Trap r) Filled count x y c f = absurd (none-some r (sym (y.0 told) ∙ sym (trap_other a runs others count) ∙ x.0 told))
  fills a runs others (Trap r) (Trap q) count x y c f = plain (Trap r) (Trap q) (ap (λ (n : ℕ). Trap n) (same_Some r q (sym (x.0 told) ∙ trap_other a runs others count ∙ y.0 told))) x.1 y.1 c f
  fills a runs others Filled q count x y c f = absurd y
  fills a runs others (Trap r) q count x y c f = absurd y
  fills a runs others r q count x y c f = absurd x

  -- by the call: one that reads, or another
  same_call : (call : Call) → d.call ≡ call → e.call ≡ call → d.who ≡ e.who → d.faults_after ≡ e.faults_after → is_page_fault d.reply ≡ is_page_fault e.reply → Allowed t s d → IsDrawnEntry seed s d → Allowed t s' e → IsDrawnEntry seed s' e
      → SameOutcome d e d.reply e.reply
  same_call (Fetch a len) p q who after page_fault x y z w =
      fetches a len d.reply e.reply (subst (λ (k : Call). Allows t s d k d.reply) p x.allows) (subst (λ (k : Call). Allows t s' e k e.reply) q z.allows)
      (subst (λ (k : Call). IsDrawnEvent seed s d k d.reply) p y) (subst (λ (k : Call). IsDrawnEvent seed s' e k e.reply) q w)
  same_call (Allot asked align) p q who after page_fault x y z w = from_one (one (subst (λ (k : Call). IsNoRead k) (sym p) tt) who (p ∙ sym q) after page_fault x y z w)
  same_call (GiveBack a stated) p q who after page_fault x y z w = from_one (one (subst (λ (k : Call). IsNoRead k) (sym p) tt) who (p ∙ sym q) after page_fault x y z w)
  same_call (Measure a) p q who after page_fault x y z w = from_one (one (subst (λ (k : Call). IsNoRead k) (sym p) tt) who (p ∙ sym q) after page_fault x y z w)
  same_call (Fill a runs) p q who after page_fault x y z w = from_one (one (subst (λ (k : Call). IsNoRead k) (sym p) tt) who (p ∙ sym q) after page_fault x y z w)

  one_outcome : AskSame d e → Allowed t s d → IsDrawnEntry seed s d → Allowed t s' e → IsDrawnEntry seed s' e → SameOutcome d e d.reply e.reply
  one_outcome ask x y z w =
      ⊎_elim
      (λ same. same_call d.call refl (sym same) ask.who ask.faults ask.page_fault x y z w)
      (λ fill. fills fill.from fill.runs fill.others d.reply e.reply fill.count
      (subst (λ (k : Call). Allows t s d k d.reply) fill.call_is x.allows) (subst (λ (k : Call). Allows t s' e k e.reply) fill.other_is z.allows)
      (subst (λ (k : Call). IsDrawnEvent seed s d k d.reply) fill.call_is y) (subst (λ (k : Call). IsDrawnEvent seed s' e k e.reply) fill.other_is w))
      ask.calls

-- ---- the states after them
unread_changed : (e : Entry) (call : Call) (r : Reply) (s : State) → changed e call (unread r) s ≡ changed e call r s
unread_changed e (Allot asked align) (Bytes runs) s = refl
unread_changed e (GiveBack a stated) (Bytes runs) s = refl
unread_changed e (Measure a) (Bytes runs) s = refl
unread_changed e (Fetch a len) (Bytes runs) s = refl
unread_changed e (Fill a runs) (Bytes others) s = refl
unread_changed e call r s = refl

-- a state changes by what was chosen and drawn
changed_by : (d e : Entry) (call : Call) (r : Reply) (s : State) → d.choices ≡ e.choices → d.draws ≡ e.draws → changed e call r s ≡ changed d call r s
changed_by d e (Allot asked align) (Given a size) s choices draws = λ i. record s { live = (a, new_block asked (unwrap_or (sym choices i).guard 0)) ∷ s.live }
changed_by d e (GiveBack a stated) Freed s choices draws = λ i. releases (sym choices i).released (takes_back a (sym draws i).w0 (at a s.live) s)
changed_by d e call r s choices draws = refl

same_changed : (d : Entry) (call : Call) (r : Reply) (s s' : State) → AlikeStates s s' → AlikeStates (changed d call r s) (changed d call r s')
same_changed d (Allot asked align) (Given a size) s s' h = record { live = (own_block (a, new_block asked (unwrap_or d.choices.guard 0)), h.live); quarantined = h.quarantined; frees = h.frees }
same_changed d (GiveBack a stated) PagesFailed s s' h = record { live = blocks_marked a s.live s'.live h.live; quarantined = h.quarantined; frees = h.frees }
same_changed d (GiveBack a stated) Freed s s' h =
    releases_alike d.choices.released (takes_back a d.draws.w0 (at a s.live) s) (takes_back a d.draws.w0 (at a s'.live) s')
    (back_alike a d.draws.w0 (at a s.live) (at a s'.live) s s' (blocks_at a s.live s'.live h.live) h)
same_changed d (Fill a runs) Filled s s' h = record { live = blocks_written a a (expand runs) (expand runs) s.live s'.live h.live; quarantined = h.quarantined; frees = h.frees }
same_changed d call r s s' h = h

fill_changed : (d e : Entry) (a : ℕ) (runs others : List (ℕ × ℕ)) (r q : Reply) (s s' : State) → unread r ≡ unread q → AlikeStates s s' → AlikeStates (changed d (Fill a runs) (unread r) s) (changed e (Fill a others) (unread q) s')
fill_changed d e a runs others r q s s' same h = subst (λ (x : Reply). AlikeStates (changed d (Fill a runs) (unread r) s) (changed e (Fill a others) x s')) same (by (unread r))
  where
    by : (x : Reply) → AlikeStates (changed d (Fill a runs) x s) (changed e (Fill a others) x s')
    by Filled = record { live = blocks_written a a (expand runs) (expand others) s.live s'.live h.live; quarantined = h.quarantined; frees = h.frees }
    by x = h

after_alike : (d e : Entry) (s s' : State) → AskSame d e → SameOutcome d e d.reply e.reply → AlikeStates s s' → AlikeStates (changed d d.call d.reply s) (changed e e.call e.reply s')
after_alike d e s s' ask out h =
    ⊎_elim
    (λ same. (let path : changed e e.call e.reply s' ≡ changed d d.call d.reply s' =
    changed_by d e e.call e.reply s' out.choices out.draws ∙ sym (unread_changed d e.call e.reply s') ∙ (λ i. changed d (sym same i) (sym out.replies i) s') ∙ unread_changed d d.call d.reply s' in
    subst (λ (x : State). AlikeStates (changed d d.call d.reply s) x) (sym path) (same_changed d d.call d.reply s s' h)))
    (λ fill.
    subst (λ (x : State). AlikeStates x (changed e e.call e.reply s')) (unread_changed d d.call d.reply s)
    (subst (λ (x : State). AlikeStates (changed d d.call (unread d.reply) s) x) (unread_changed e e.call e.reply s')
    (subst (λ (k : Call). AlikeStates (changed d k (unread d.reply) s) (changed e e.call (unread e.reply) s')) (sym fill.call_is)
    (subst (λ (k : Call). AlikeStates (changed d (Fill fill.from fill.runs) (unread d.reply) s) (changed e k (unread e.reply) s')) (sym fill.other_is)
    (fill_changed d e fill.from fill.runs fill.others d.reply e.reply s s' out.replies h)))))
    ask.calls

-- ---- two histories
steers : (seed : ℕ) (t : Terms) (s s' : State) (es fs : List Entry) → IsTrue t.told → AlikeStates s s' → s.words ≡ s'.words → s.faults ≡ s'.faults
    → Legal step (Allowed t) s es → Legal step (IsDrawnEntry seed) s es → Legal step (Allowed t) s' fs → Legal step (IsDrawnEntry seed) s' fs → AllAskSame es fs → map outcome_of es ≡ map outcome_of fs
steers seed t s s' [] [] told h words faults x y z w ask = refl
steers seed t s s' [] (e ∷ fs) told h words faults x y z w ask = absurd ask
steers seed t s s' (d ∷ es) [] told h words faults x y z w ask = absurd ask
steers seed t s s' (d ∷ es) (e ∷ fs) told h words faults x y z w ask =
    let out = one_outcome seed t s s' told h words faults d e ask.0 x.0 y.0 z.0 w.0 in
    let alike = after_alike d e s s' ask.0 out h in
    let after : AlikeStates (step s d) (step s' e) = record { live = alike.live; quarantined = alike.quarantined; frees = alike.frees } in
    let rest = steers seed t (step s d) (step s' e) es fs told after (λ i. (out.draws i).used + words i) ask.0.faults x.1 y.1 z.1 w.1 ask.1 in
    λ i. record { reply = out.replies i; choices = out.choices i; draws = out.draws i } ∷ rest i

pub block_fills_steer_nothing : BlockFillsSteerNothing
block_fills_steer_nothing seed t es fs h ask =
    steers seed t start start es fs h.told (record { live = tt; quarantined = tt; frees = refl }) refl refl h.legal h.drawn h.other_legal h.other_drawn ask
