-- What is live was given, and not freed since.
use Rattle.std.proofs.Common.{◌≡◌, ◌≢◌, ◌⊎◌, inl, inr, ⊎_elim, ℕ, Bool, true, cond, List, [], ◌∷◌, Option, Some, None, is_some, unwrap_or, sym, ◌∙◌, ap, refl, true≢false}
use Rattle.std.specs.Prelude.{option_map}
use Rattle.std.proofs.lemmas.Bool.{cases_eq}
use Rattle.std.proofs.lemmas.Option.{none-some, same_Some}
use Rattle.hm_model.specs.declared.entry.Entry.{Entry}
use Rattle.hm_model.specs.declared.entry.Call.{Call}
use Rattle.hm_model.specs.declared.entry.Call.TheVariants.{Allot, GiveBack, Fill}
use Rattle.hm_model.specs.declared.entry.Choices.{Choices}
use Rattle.hm_model.specs.declared.entry.Reply.{Reply}
use Rattle.hm_model.specs.declared.entry.Reply.TheVariants.{Given, Overwritten, PagesFailed, Freed, Filled}
use Rattle.hm_model.specs.Calls.{IsFreedAt}
use Rattle.hm_model.specs.Machine.{state_after, Legal, Legal_split}
use Rattle.hm_model.specs.Maps.{at, has, removed}
use Rattle.hm_model.specs.Runs.{expand}
use Rattle.hm_model.proofs.Lists.{other_eq}
use Rattle.hm_sizes.specs.declared.shape.Shape.{Shape}
use Rattle.hm_class_rules.specs.Laws.{IsGivenAt}
use Rattle.hm_class_rules.specs.Rules as class
use Rattle.hm_class_rules.specs.State as class_state
use Rattle.hm_class_rules.proofs.Changes.{opened_live, out_live, has_removed}
use Rattle.hm_class_rules.specs.Steps as class_steps
use Rattle.hm_large_rules.specs.State.{Block, Blocks}
use Rattle.hm_large_rules.specs.Steps.{new_block, mark}
use Rattle.hm_large_rules.specs.Bytes.{overlay}
use Rattle.hm_large_rules.specs.Rules as large
use Rattle.hm_large_rules.specs.State as large_state
use Rattle.hm_large_rules.specs.Steps as large_steps
use Rattle.hm_large_rules.proofs.BlockLists as block_lists
use Rattle.hm_guarantees.specs.FreedBlocks.{GivesBlock, GivesNoneAt}
use Rattle.hm_guarantees.specs.FreesOfLive.{WasGiven, FreesOfLiveSlots, BlockWasGiven, FreesOfLiveBlocks}
use Rattle.hm_guarantees.specs.Given.{GivesNone, FreesNone}
use Rattle.hm_guarantees.proofs.FreedBlocks as blocks
use Rattle.hm_guarantees.proofs.Parts as parts

-- ---- slots
slot_of_call : Call → Reply → Option ℕ
slot_of_call (Allot asked align) (Given b size) = Some b
slot_of_call call reply = None

freed_of_call : Call → Reply → Option ℕ
freed_of_call (GiveBack b stated) Freed = Some b
freed_of_call call reply = None

gives_it : (e : Entry) (a : ℕ) → IsGivenAt e a → slot_of_call e.call e.reply ≡ Some a
unfolding slot_of_call
gives_it e a is = ap (λ (c : Call). slot_of_call c e.reply) is.call ∙ ap (λ (r : Reply). slot_of_call (Allot is.asked is.align) r) is.reply

gives_block : (e : Entry) (a asked : ℕ) → GivesBlock e a asked → slot_of_call e.call e.reply ≡ Some a
unfolding slot_of_call
gives_block e a asked is = ap (λ (c : Call). slot_of_call c e.reply) is.call ∙ ap (λ (r : Reply). slot_of_call (Allot asked is.align) r) is.reply

frees_it : (e : Entry) (a : ℕ) → IsFreedAt e a → freed_of_call e.call e.reply ≡ Some a
unfolding freed_of_call
frees_it e a is = ap (λ (c : Call). freed_of_call c e.reply) is.call ∙ ap (λ (r : Reply). freed_of_call (GiveBack a is.stated) r) is.reply

record WasLive (call : Call) (reply : Reply) (a : ℕ) (live : Bool) : Type 0 where
  live_is : live ≡ true
  not_given : slot_of_call call reply ≢ Some a
  not_freed : freed_of_call call reply ≢ Some a

-- by the call and the reply
slot_changed : (t : class.Terms) (s : class_state.State) (before now : ℕ) (c : Choices) (call : Call) (reply : Reply) (a : ℕ) → class.Allows t s before now c call reply → class_state.is_live (class_steps.changed t.shape c call reply s) a ≡ true
    → ((asked : ℕ) × (align : ℕ) × (size : ℕ) × (call ≡ Allot asked align) × (reply ≡ Given a size)) ⊎ WasLive call reply a (class_state.is_live s a)
unfolding slot_of_call freed_of_call
slot_changed t s before now c (Allot asked align) (Given b size) a allows live =
    ⊎_elim
    (λ same. inl (asked, align, size, refl, ap (λ (x : ℕ). Given x size) same))
    (λ ne. inr (record {
      live_is = sym (ap (λ (l : List (ℕ × ℕ)). has a l) (opened_live t.shape c.opened c.canary s)) ∙ sym (has_removed b a (class_steps.opened t.shape c.opened c.canary s).live ne)
          ∙ sym (ap (λ (x : Bool). is_some (cond x (Some asked) (at a (removed b (class_steps.opened t.shape c.opened c.canary s).live)))) (other_eq b a ne)) ∙ live;
      not_given = λ e. ne (same_Some b a e);
      not_freed = λ e. none-some a e;
    }))
    (cases_eq b a)
slot_changed t s before now c (Allot asked align) (Overwritten b at found) a allows live = inr (record {
  live_is = sym (ap (λ (l : List (ℕ × ℕ)). has a l) (opened_live t.shape c.opened c.canary s)) ∙ live;
  not_given = λ e. none-some a e;
  not_freed = λ e. none-some a e;
})
slot_changed t s before now c (GiveBack b stated) Freed a allows live =
    let p : Shape = t.shape in
    let s₂ : class_state.State = class_steps.releases c.released (class_steps.takes_back p b s) in
    let left : has a (removed b s.live) ≡ true = ap (λ (l : List (ℕ × ℕ)). has a l) (sym (out_live p s₂ c.retired c.purged c.unparked ∙ parts.released_live c.released (class_steps.takes_back p b s))) ∙ live in
    ⊎_elim
    (λ same. absurd (true≢false (sym left ∙ ap (λ (k : ℕ). has a (removed k s.live)) same ∙ parts.has_removed_same a s.live)))
    (λ ne. inr (record { live_is = sym (has_removed b a s.live ne) ∙ left; not_given = λ e. none-some a e; not_freed = λ e. ne (same_Some b a e) }))
    (cases_eq b a)
slot_changed t s before now c (Fill b runs) Filled a allows live = inr (record { live_is = live; not_given = λ e. none-some a e; not_freed = λ e. none-some a e })
slot_changed t s before now c call reply a allows live = inr (record { live_is = live; not_given = λ e. none-some a e; not_freed = λ e. none-some a e })

-- it was live at first, and no entry gave or freed it; or one of them gave it, and none since did either
record StayedLive (live : Bool) (es : List Entry) (a : ℕ) : Type 0 where
  live_is : live ≡ true
  given_none : GivesNone a es
  freed_none : FreesNone a es

given_before : (e : Entry) (es : List Entry) (a : ℕ) → WasGiven es a → WasGiven (e ∷ es) a
given_before e es a w = record {
  before = e ∷ w.before;
  given = w.given;
  later = w.later;
  entries = ap (λ (l : List Entry). e ∷ l) w.entries;
  gives = w.gives;
  given_once = w.given_once;
  never_freed = w.never_freed;
}

slot_run : (t : class.Terms) (s : class_state.State) (es : List Entry) (a : ℕ) → Legal (class_steps.step t.shape) (class.Allowed t) s es → class_state.is_live (state_after (class_steps.step t.shape) (class.Allowed t) s es) a ≡ true
    → StayedLive (class_state.is_live s a) es a ⊎ WasGiven es a
slot_run t s [] a legal live = inl (record { live_is = live; given_none = tt; freed_none = tt })
slot_run t s (e ∷ es) a legal live =
    ⊎_elim
    (λ stayed. ⊎_elim
    (λ gave. inr (record {
      before = [];
      given = e;
      later = es;
      entries = refl;
      gives = record { asked = gave.0; align = gave.1; size = gave.2; call = gave.3; reply = gave.4 };
      given_once = stayed.given_none;
      never_freed = stayed.freed_none;
    }))
    (λ was. inl (record {
      live_is = was.live_is;
      given_none = (λ is. was.not_given (gives_it e a is), stayed.given_none);
      freed_none = (λ is. was.not_freed (frees_it e a is), stayed.freed_none);
    }))
    (slot_changed t s e.faults_before e.faults_after e.choices e.call e.reply a legal.0.allows stayed.live_is))
    (λ given. inr (given_before e es a given))
    (slot_run t (class_steps.step t.shape s e) es a legal.1 live)

pub frees_of_live_slots : FreesOfLiveSlots
frees_of_live_slots t before freed a legal is =
    let split = Legal_split (class_steps.step t.shape) (class.Allowed t) class_state.start before (freed ∷ []) legal in
    let allows = parts.allows_at t (class.state t before) freed (GiveBack a is.stated) Freed split.1.0 is.call is.reply in
    ⊎_elim (λ stayed. absurd (true≢false (sym stayed.live_is))) (λ given. given) (slot_run t class_state.start before a split.0 allows.block.live)

-- ---- large blocks
block_changed : (t : large.Terms) (s : large_state.State) (e : Entry) (call : Call) (reply : Reply) (a : ℕ) → has a (large_steps.changed e call reply s).live ≡ true
    → ((asked : ℕ) × (align : ℕ) × (size : ℕ) × (call ≡ Allot asked align) × (reply ≡ Given a size)) ⊎ WasLive call reply a (has a s.live)
unfolding slot_of_call freed_of_call
block_changed t s e (Allot asked align) (Given b size) a live =
    ⊎_elim
    (λ same. inl (asked, align, size, refl, ap (λ (x : ℕ). Given x size) same))
    (λ ne. inr (record {
      live_is = sym (ap (λ (x : Bool). is_some (cond x (Some (new_block asked (unwrap_or e.choices.guard 0))) (at a s.live))) (other_eq b a ne)) ∙ live;
      not_given = λ q. ne (same_Some b a q);
      not_freed = λ q. none-some a q;
    }))
    (cases_eq b a)
block_changed t s e (GiveBack b stated) PagesFailed a live = inr (record { live_is = some_map (at a s.live) (ap (λ (o : Option Block). is_some o) (sym (blocks.at_map (mark b) (λ x. refl) a s.live)) ∙ live); not_given = λ q. none-some a q; not_freed = λ q. none-some a q })
  where
    some_map : (o : Option Block) → is_some (option_map (λ (x : Block). (mark b (a, x)).1) o) ≡ true → is_some o ≡ true
    some_map None h = h
    some_map (Some x) h = refl
block_changed t s e (GiveBack b stated) Freed a live =
    let left : has a (removed b s.live) ≡ true = ap (λ (l : Blocks). has a l) (sym (blocks.back_live b e.draws.w0 (at b s.live) e.choices.released s refl)) ∙ live in
    ⊎_elim
    (λ same. absurd (true≢false (sym left ∙ ap (λ (k : ℕ). has a (removed k s.live)) same ∙ ap (λ (o : Option Block). is_some o) (block_lists.at_removed_same a s.live))))
    (λ ne. inr (record { live_is = ap (λ (o : Option Block). is_some o) (sym (block_lists.at_removed a b s.live ne)) ∙ left; not_given = λ q. none-some a q; not_freed = λ q. ne (same_Some b a q) }))
    (cases_eq b a)
block_changed t s e (Fill b runs) Filled a live = inr (record { live_is = some_map (at a s.live) (ap (λ (o : Option Block). is_some o) (sym (blocks.at_map (overlay b (expand runs)) (λ x. refl) a s.live)) ∙ live); not_given = λ q. none-some a q; not_freed = λ q. none-some a q })
  where
    some_map : (o : Option Block) → is_some (option_map (λ (x : Block). (overlay b (expand runs) (a, x)).1) o) ≡ true → is_some o ≡ true
    some_map None h = h
    some_map (Some x) h = refl
block_changed t s e call reply a live = inr (record { live_is = live; not_given = λ q. none-some a q; not_freed = λ q. none-some a q })

record BlockStayed (live : Bool) (es : List Entry) (a : ℕ) : Type 0 where
  live_is : live ≡ true
  given_none : GivesNoneAt a es
  freed_none : FreesNone a es

block_run : (t : large.Terms) (s : large_state.State) (es : List Entry) (a : ℕ) → Legal large_steps.step (large.Allowed t) s es → has a (state_after large_steps.step (large.Allowed t) s es).live ≡ true
    → BlockStayed (has a s.live) es a ⊎ BlockWasGiven es a
block_run t s [] a legal live = inl (record { live_is = live; given_none = tt; freed_none = tt })
block_run t s (e ∷ es) a legal live =
    ⊎_elim
    (λ stayed. ⊎_elim
    (λ gave. inr (record {
      before = [];
      given = e;
      later = es;
      entries = refl;
      asked = gave.0;
      gives = record { align = gave.1; usable = gave.2; call = gave.3; reply = gave.4 };
      given_once = stayed.given_none;
      never_freed = stayed.freed_none;
    }))
    (λ was. inl (record {
      live_is = was.live_is;
      given_none = (λ asked is. was.not_given (gives_block e a asked is), stayed.given_none);
      freed_none = (λ is. was.not_freed (frees_it e a is), stayed.freed_none);
    }))
    (block_changed t s e e.call e.reply a stayed.live_is))
    (λ w. inr (record {
      before = e ∷ w.before;
      given = w.given;
      later = w.later;
      entries = ap (λ (l : List Entry). e ∷ l) w.entries;
      asked = w.asked;
      gives = w.gives;
      given_once = w.given_once;
      never_freed = w.never_freed;
    }))
    (block_run t (large_steps.step s e) es a legal.1 live)

pub frees_of_live_blocks : FreesOfLiveBlocks
frees_of_live_blocks t before freed a legal is =
    let split = Legal_split large_steps.step (large.Allowed t) large_state.start before (freed ∷ []) legal in
    let allows = blocks.allows_at t (large.state t before) freed (GiveBack a is.stated) Freed split.1.0 is.call is.reply in
    ⊎_elim (λ stayed. absurd (true≢false (sym stayed.live_is))) (λ given. given) (block_run t large_state.start before a split.0 allows.block)
