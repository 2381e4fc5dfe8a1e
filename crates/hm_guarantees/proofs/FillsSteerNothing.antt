-- What is written to live slots steers nothing.
use Rattle.std.proofs.Common.{◌≡◌, ⊎_elim, ℕ, ◌+◌, ◌-◌, ◌<◌, ◌≤◌, Bool, true, false, cond, ◌||◌, List, [], ◌∷◌, ◌++◌, map, length, Option, is_some, sym, ◌∙◌, ap, subst, refl, arith, true≢false}
use Rattle.std.specs.Prelude.{find, option_map, IsTrue, ⊤}
use Rattle.std.specs.List.{range_with_len}
use Rattle.std.proofs.lemmas.Option.{none-some, same_Some}
use Rattle.hm_quarantine.specs.Quarantine.{Kept, kept_with}
use Rattle.hm_model.specs.declared.entry.Entry.{Entry}
use Rattle.hm_model.specs.declared.entry.Call.{Call}
use Rattle.hm_model.specs.declared.entry.Call.TheVariants.{Allot, GiveBack, Measure, Fetch, Fill}
use Rattle.hm_model.specs.declared.entry.Reply.{Reply}
use Rattle.hm_model.specs.declared.entry.Reply.TheVariants.{Bytes, Filled, Trap}
use Rattle.hm_model.specs.declared.entry.Choices.{Choices}
use Rattle.hm_model.specs.declared.entry.Draws.{Draws}
use Rattle.hm_model.specs.Calls.{no_choices}
use Rattle.hm_model.specs.Entries.{AreDraws}
use Rattle.hm_model.specs.Machine.{Legal}
use Rattle.hm_model.specs.Maps.{keys}
use Rattle.hm_model.specs.Runs.{expand}
use Rattle.hm_sizes.specs.declared.shape.Shape.{Shape}
use Rattle.hm_sizes.specs.Shapes.{IsShape, place, slab_of}
use Rattle.hm_class_rules.specs.State.{State, Slab}
use Rattle.hm_class_rules.specs.Bytes.{overlaid_slabs, first_trap}
use Rattle.hm_class_rules.specs.Steps.{opened, changed, step}
use Rattle.hm_class_rules.specs.Rules.{Terms, Allows, Allowed}
use Rattle.hm_class_rules.specs.Laws.{IsSound}
use Rattle.hm_class_rules.specs.Draws.{Event, Picked, Returned, Undrawn, event_of, event, word_count, words_from, words_of, start_slot, array_index, parking_index, after_words}
use Rattle.hm_class_rules.specs.Drawn.{first_free}
use Rattle.hm_class_rules.specs.Kinds.{Partial, Empty, Neither, kind}
use Rattle.hm_class_rules.specs.Stepped.{Cells, first_cells, touched, listed, quarantine_with, parking_with, parking_after, next, IsSteppedEntry, IsSteppedEvent}
use Rattle.hm_model.specs.Replies.{is_page_fault, HasRuns}
use Rattle.hm_class_rules.proofs.Alike.{drawn_is_stepped}
use Rattle.hm_class_rules.proofs.Sound.{sound_faults, sound_bytes}
use Rattle.hm_class_rules.proofs.Legal.{sound_start, sound_step}
use Rattle.hm_class_rules.proofs.SameWords.{same_draws}
use Rattle.hm_class_rules.proofs.SameParts.{Stands, Agree}
use Rattle.hm_class_rules.proofs.SameEntry.{agree}
use Rattle.hm_guarantees.specs.FillsSteerNothing.{AskAlike, AllAskAlike, unread, outcome_of, FillsSteerNothing}
use Rattle.hm_guarantees.proofs.AlikeSlabs.{AlikeSlabs, alike_sym, alike_keys, alike_writes, alike_more}
use Rattle.hm_guarantees.proofs.Alike.{at_slabs, IsUsable, free_same, empty_same, partial_same, opened_slabs, opened_same, opened_alike, trap_same, ReadsSame, allows_same}
use Rattle.hm_guarantees.proofs.AlikeSteps.{AreAlike, same_call_alike}

-- what is known of an entry, at a call and a reply
pub record Knows (t : Terms) (c : Cells) (e : Entry) (call : Call) (r : Reply) : Type 0 where
  pub before : ℕ
  pub now : ℕ
  pub allows : Allows t c.state before now e.choices call r
  pub draws : AreDraws e.draws
  pub count : e.draws.used ≡ word_count t e.choices (event_of call r)
  pub words : words_of e.draws ≡ words_from c.stream e.draws.used
  pub stepped : IsSteppedEvent t c e (event_of call r)

pub knows : (t : Terms) (c : Cells) (e : Entry) → Allowed t c.state e → IsSteppedEntry t c e → Knows t c e e.call e.reply
knows t c e allowed stepped = record {
  before = e.faults_before;
  now = e.faults_after;
  allows = allowed.allows;
  draws = allowed.draws;
  count = stepped.count;
  words = stepped.words;
  stepped = stepped.choices;
}

-- the same cells, with other open slabs
abbrev pub at_cells : List (ℕ × Slab) → ℕ → Cells → Cells
at_cells m f c = record c { state = at_slabs m f c.state }

pub record SameOutcome (e f : Entry) (r q : Reply) : Type 0 where
  pub replies : unread r ≡ unread q
  pub choices : e.choices ≡ f.choices
  pub draws : e.draws ≡ f.draws

pub from_agree : (e f : Entry) (r q : Reply) → Agree e f r q → SameOutcome e f r q
from_agree e f r q a = record { replies = ap unread a.replies; choices = a.choices; draws = a.draws }

-- ---- two entries that ask alike
-- the call reads no bytes
abbrev pub IsNoRead : Call → Type 0
IsNoRead (Fetch a len) = ⊥
IsNoRead call = ⊤

no_bytes : (t : Terms) (s : State) (before now : ℕ) (c : Choices) (call : Call) (r : Reply) → IsNoRead call → Allows t s before now c call r → HasRuns r
no_bytes t s before now c (Allot asked align) (Bytes runs) h x = absurd x
no_bytes t s before now c (GiveBack a stated) (Bytes runs) h x = absurd x
no_bytes t s before now c (Measure a) (Bytes runs) h x = absurd x
no_bytes t s before now c (Fetch a len) (Bytes runs) h x = absurd h
no_bytes t s before now c (Fill a runs) (Bytes others) h x = absurd x
no_bytes t s before now c call r h x = tt

reads_none : (t : Terms) (W : ℕ → Type 0) (s : State) (m : List (ℕ × Slab)) (f : ℕ) (shape : IsShape t.shape) (fit : IsSound t.shape s) (inside : (q : ℕ) → W q → IsUsable t.shape s q) (h : AlikeSlabs t.shape W s.opens m) (call : Call)
    → IsNoRead call → ReadsSame t W s m f shape fit inside h call
reads_none t W s m f shape fit inside h (Fetch a len) none = absurd none
reads_none t W s m f shape fit inside h call none = tt

-- wherever the bytes may differ: a read, and a write
module _ (t : Terms) (c : Cells) (W : ℕ → Type 0) (m : List (ℕ × Slab)) (f : ℕ) (shape : IsShape t.shape) (told : IsTrue t.told) (h : AlikeSlabs t.shape W c.state.opens m) (d e : Entry) where
  -- nothing is chosen or drawn
  plain : (call other : Call) (r q : Reply) → Knows t c d call r → Knows t (at_cells m f c) e other q → event_of call r ≡ Undrawn → event_of other q ≡ Undrawn → unread r ≡ unread q
      → d.choices ≡ no_choices → e.choices ≡ no_choices → SameOutcome d e r q
  plain call other r q x y er eq same cd ce =
      let ux : d.draws.used ≡ 0 = x.count ∙ ap (word_count t d.choices) er in
      let uy : e.draws.used ≡ 0 = y.count ∙ ap (word_count t e.choices) eq in
      record { replies = same; choices = cd ∙ sym ce; draws = same_draws c.stream d.draws e.draws x.draws y.draws (ux ∙ sym uy) x.words y.words }

  trap_there : (a len : ℕ) → first_trap t.shape c.state a len ≡ first_trap t.shape (at_slabs m f c.state) a len
  trap_there a len = trap_same t.shape W c.state m f h shape a len

  pub fetches : (a len : ℕ) (r q : Reply) → Knows t c d (Fetch a len) r → Knows t (at_cells m f c) e (Fetch a len) q → SameOutcome d e r q
  fetches a len (Bytes xs) (Bytes ys) x y = plain (Fetch a len) (Fetch a len) (Bytes xs) (Bytes ys) x y refl refl refl x.allows.2 y.allows.2
  fetches a len (Bytes xs) (Trap q) x y = absurd (none-some q (sym (x.allows.1 told).0 ∙ trap_there a len ∙ y.allows.0 told))
  fetches a len (Trap r) (Bytes ys) x y = absurd (none-some r (sym (y.allows.1 told).0 ∙ sym (trap_there a len) ∙ x.allows.0 told))
  fetches a len (Trap r) (Trap q) x y =
      plain (Fetch a len) (Fetch a len) (Trap r) (Trap q) x y refl refl (ap (λ (n : ℕ). Trap n) (same_Some r q (sym (x.allows.0 told) ∙ trap_there a len ∙ y.allows.0 told))) x.allows.1 y.allows.1
  fetches a len (Bytes xs) q x y = absurd y.allows
  fetches a len (Trap r) q x y = absurd y.allows
  fetches a len r q x y = absurd x.allows

  trap_other : (a : ℕ) (runs others : List (ℕ × ℕ)) → length (expand others) ≡ length (expand runs) → first_trap t.shape c.state a (length (expand runs)) ≡ first_trap t.shape (at_slabs m f c.state) a (length (expand others))
  trap_other a runs others count = trap_there a (length (expand runs)) ∙ ap (λ (n : ℕ). first_trap t.shape (at_slabs m f c.state) a n) (sym count)

  pub fills : (a : ℕ) (runs others : List (ℕ × ℕ)) (r q : Reply) → length (expand others) ≡ length (expand runs) → Knows t c d (Fill a runs) r → Knows t (at_cells m f c) e (Fill a others) q → SameOutcome d e r q
  fills a runs others Filled Filled count x y = plain (Fill a runs) (Fill a others) Filled Filled x y refl refl refl x.allows.1 y.allows.1
  fills a runs others Filled (Trap q) count x y = absurd (none-some q (sym (x.allows.0 told) ∙ trap_other a runs others count ∙ y.allows.0 told))
  fills a runs others (Trap r) Filled count x y = absurd (none-some r (sym (y.allows.0 told) ∙ sym (trap_other a runs others count) ∙ x.allows.0 told))
  fills a runs others (Trap r) (Trap q) count x y =
      plain (Fill a runs) (Fill a others) (Trap r) (Trap q) x y refl refl (ap (λ (n : ℕ). Trap n) (same_Some r q (sym (x.allows.0 told) ∙ trap_other a runs others count ∙ y.allows.0 told))) x.allows.1 y.allows.1
  fills a runs others Filled q count x y = absurd y.allows
  fills a runs others (Trap r) q count x y = absurd y.allows
  fills a runs others r q count x y = absurd x.allows

module _ (t : Terms) (c : Cells) (m : List (ℕ × Slab)) (f : ℕ) (shape : IsShape t.shape) (told : IsTrue t.told) (fit : IsSound t.shape c.state) (fit' : IsSound t.shape (at_slabs m f c.state)) (h : AlikeSlabs t.shape (IsUsable t.shape c.state) c.state.opens m) (d e : Entry) where
  inside : (q : ℕ) → IsUsable t.shape c.state q → IsUsable t.shape (at_slabs m f c.state) q
  inside q u = record { slot = u.slot; live = u.live; low = u.low; high = u.high }

  back : AlikeSlabs t.shape (IsUsable t.shape c.state) m c.state.opens
  back = alike_sym t.shape (IsUsable t.shape c.state) c.state.opens m h

  first_same : (ch : Choices) (n i : ℕ) → first_free t.shape (opened t.shape ch.opened ch.canary c.state) n i ≡ first_free t.shape (opened t.shape ch.opened ch.canary (at_slabs m f c.state)) n i
  first_same ch n i =
      let p : Shape = t.shape in
      let now : State = opened p ch.opened ch.canary c.state in
      let m' : List (ℕ × Slab) = opened_slabs p ch.opened ch.canary m in
      let keys_now = alike_keys p (IsUsable p c.state) now.opens m' (opened_alike p (IsUsable p c.state) ch.opened ch.canary c.state m h) in
      (λ j. option_map (place p n) (find (λ k. free_same p now m' f keys_now n k j) (range_with_len i (p.slots - i) ++ range_with_len 0 i)))
      ∙ ap (λ (x : State). first_free p x n i) (sym (opened_same p ch.opened ch.canary m f c.state))

  event_back : (ev : Event) → IsSteppedEvent t (at_cells m f c) e ev → IsSteppedEvent t c e ev
  event_back (Picked a) x = record {
    picked = record { canary = x.picked.canary; place = first_same e.choices (slab_of t.shape a) (start_slot t e.choices e.draws) ∙ x.picked.place };
    source = x.source;
  }
  event_back (Returned a) x = record { released = x.released; unparked = x.unparked }
  event_back Undrawn x = x

  here : (call : Call) (r : Reply) → IsNoRead call → Knows t c d call r → Stands t c d call r
  here call r none x = record {
    before = x.before;
    now = x.now;
    allows = x.allows;
    draws = x.draws;
    count = x.count;
    words = x.words;
    stepped = x.stepped;
    runs = no_bytes t c.state x.before x.now d.choices call r none x.allows;
  }

  there : (call : Call) (r : Reply) → IsNoRead call → Knows t (at_cells m f c) e call r → Stands t c e call r
  there call r none x = record {
    before = x.before;
    now = x.now;
    allows = allows_same t (IsUsable t.shape c.state) (at_slabs m f c.state) c.state.opens c.state.faults shape fit' inside back x.before x.now e.choices call r
        (reads_none t (IsUsable t.shape c.state) (at_slabs m f c.state) c.state.opens c.state.faults shape fit' inside back call none) x.allows;
    draws = x.draws;
    count = x.count;
    words = x.words;
    stepped = event_back (event_of call r) x.stepped;
    runs = no_bytes t (at_slabs m f c.state) x.before x.now e.choices call r none x.allows;
  }

  same_call : (call : Call) (r q : Reply) → (is_page_fault r || is_some d.choices.purged) ≡ (is_page_fault q || is_some e.choices.purged) → Knows t c d call r → Knows t (at_cells m f c) e call q → SameOutcome d e r q
  same_call (Allot asked align) r q flag x y = from_agree d e r q (agree t c d e (Allot asked align) r q shape told flag (here (Allot asked align) r tt x) (there (Allot asked align) q tt y))
  same_call (GiveBack a stated) r q flag x y = from_agree d e r q (agree t c d e (GiveBack a stated) r q shape told flag (here (GiveBack a stated) r tt x) (there (GiveBack a stated) q tt y))
  same_call (Measure a) r q flag x y = from_agree d e r q (agree t c d e (Measure a) r q shape told flag (here (Measure a) r tt x) (there (Measure a) q tt y))
  same_call (Fetch a len) r q flag x y = fetches t c (IsUsable t.shape c.state) m f shape told h d e a len r q x y
  same_call (Fill a runs) r q flag x y = fills t c (IsUsable t.shape c.state) m f shape told h d e a runs runs r q refl x y

  one_outcome : AskAlike t.shape c.state d e → Allowed t c.state d → IsSteppedEntry t c d → Allowed t (at_slabs m f c.state) e → IsSteppedEntry t (at_cells m f c) e → SameOutcome d e d.reply e.reply
  one_outcome ask allowed stepped other also =
      let x : Knows t c d d.call d.reply = knows t c d allowed stepped in
      let y : Knows t (at_cells m f c) e e.call e.reply = knows t (at_cells m f c) e other also in
      ⊎_elim
      (λ same. same_call d.call d.reply e.reply ask.page_fault x (subst (λ (k : Call). Knows t (at_cells m f c) e k e.reply) (sym same) y))
      (λ fill. fills t c (IsUsable t.shape c.state) m f shape told h d e fill.from fill.runs fill.others d.reply e.reply fill.count
      (subst (λ (k : Call). Knows t c d k d.reply) fill.call_is x)
      (subst (λ (k : Call). Knows t (at_cells m f c) e k e.reply) fill.other_is y))
      ask.calls

-- ---- the states and the cells after them
pub unread_changed : (p : Shape) (c : Choices) (call : Call) (r : Reply) (s : State) → changed p c call (unread r) s ≡ changed p c call r s
unread_changed p c (Allot asked align) (Bytes runs) s = refl
unread_changed p c (GiveBack a stated) (Bytes runs) s = refl
unread_changed p c (Measure a) (Bytes runs) s = refl
unread_changed p c (Fetch a len) (Bytes runs) s = refl
unread_changed p c (Fill a runs) (Bytes others) s = refl
unread_changed p c call r s = refl

pub unread_event : (call : Call) (r : Reply) → event_of call (unread r) ≡ event_of call r
unread_event (Allot asked align) (Bytes runs) = refl
unread_event (GiveBack a stated) (Bytes runs) = refl
unread_event (Measure a) (Bytes runs) = refl
unread_event (Fetch a len) (Bytes runs) = refl
unread_event (Fill a runs) (Bytes others) = refl
unread_event call r = refl

-- two fills of usable bytes
abbrev pub is_filled : Reply → Bool
is_filled Filled = true
is_filled r = false

pub filled_unread : (r : Reply) → is_filled (unread r) ≡ is_filled r
filled_unread (Bytes runs) = refl
filled_unread r = refl

fills_alike : (t : Terms) (s : State) (m : List (ℕ × Slab)) (f before now since then : ℕ) (c d : Choices) (from : ℕ) (runs others : List (ℕ × ℕ)) (r q : Reply) → length (expand others) ≡ length (expand runs)
    → ((x : ℕ) → from ≤ x → x < from + length (expand runs) → IsUsable t.shape s x) → AlikeSlabs t.shape (IsUsable t.shape s) s.opens m
    → Allows t s before now c (Fill from runs) r → Allows t (at_slabs m f s) since then d (Fill from others) q → is_filled r ≡ is_filled q
    → AreAlike t.shape (changed t.shape c (Fill from runs) r s) (changed t.shape d (Fill from others) q (at_slabs m f s)) f
fills_alike t s m f before now since then c d from runs others Filled Filled count inside h x y same = record {
  slabs = overlaid_slabs t.shape from (expand others) m;
  is = refl;
  alike = alike_more t.shape (IsUsable t.shape s) (IsUsable t.shape (changed t.shape c (Fill from runs) Filled s)) (overlaid_slabs t.shape from (expand runs) s.opens) (overlaid_slabs t.shape from (expand others) m)
      (λ q u. record { slot = u.slot; live = u.live; low = u.low; high = u.high })
      (alike_writes t.shape (IsUsable t.shape s) from (expand runs) (expand others) s.opens m count inside h);
}
fills_alike t s m f before now since then c d from runs others (Trap r) (Trap q) count inside h x y same = record { slabs = m; is = refl; alike = h }
fills_alike t s m f before now since then c d from runs others Filled (Trap q) count inside h x y same = absurd (true≢false same)
fills_alike t s m f before now since then c d from runs others (Trap r) Filled count inside h x y same = absurd (true≢false (sym same))
fills_alike t s m f before now since then c d from runs others Filled q count inside h x y same = absurd y
fills_alike t s m f before now since then c d from runs others (Trap r) q count inside h x y same = absurd y
fills_alike t s m f before now since then c d from runs others r q count inside h x y same = absurd x

-- another count of faults
with_faults : (p : Shape) (s s' : State) (f x y : ℕ) → AreAlike p s s' f → AreAlike p (record s { faults = x }) (record s' { faults = y }) y
with_faults p s s' f x y h = record {
  slabs = h.slabs;
  is = ap (λ (z : State). record z { faults = y }) h.is;
  alike = alike_more p (IsUsable p s) (IsUsable p (record s { faults = x })) s.opens h.slabs (λ q u. record { slot = u.slot; live = u.live; low = u.low; high = u.high }) h.alike;
}

states_alike : (t : Terms) (s : State) (m : List (ℕ × Slab)) (f : ℕ) (d e : Entry) → IsShape t.shape → AlikeSlabs t.shape (IsUsable t.shape s) s.opens m → AskAlike t.shape s d e
    → Allowed t s d → Allowed t (at_slabs m f s) e → SameOutcome d e d.reply e.reply → AreAlike t.shape (step t.shape s d) (step t.shape (at_slabs m f s) e) e.faults_after
states_alike t s m f d e shape h ask allowed other out =
    let p : Shape = t.shape in
    with_faults p (changed p d.choices d.call d.reply s) (changed p e.choices e.call e.reply (at_slabs m f s)) f d.faults_after e.faults_after
    (⊎_elim
    (λ same. (let path : changed p e.choices e.call e.reply (at_slabs m f s) ≡ changed p d.choices d.call d.reply (at_slabs m f s) =
    sym (unread_changed p e.choices e.call e.reply (at_slabs m f s))
    ∙ (λ i. changed p (sym out.choices i) (sym same i) (sym out.replies i) (at_slabs m f s))
    ∙ unread_changed p d.choices d.call d.reply (at_slabs m f s) in
    subst (λ (x : State). AreAlike p (changed p d.choices d.call d.reply s) x f) (sym path) (same_call_alike t s m f d.faults_before d.faults_after d.choices d.call d.reply shape h allowed.allows)))
    (λ fill.
    subst (λ (k : Call). AreAlike p (changed p d.choices k d.reply s) (changed p e.choices e.call e.reply (at_slabs m f s)) f) (sym fill.call_is)
    (subst (λ (k : Call). AreAlike p (changed p d.choices (Fill fill.from fill.runs) d.reply s) (changed p e.choices k e.reply (at_slabs m f s)) f) (sym fill.other_is)
    (fills_alike t s m f d.faults_before d.faults_after e.faults_before e.faults_after d.choices e.choices fill.from fill.runs fill.others d.reply e.reply fill.count
    (λ x low high. record { slot = fill.slot; live = fill.live; low = omega (arith, low, fill.low); high = omega (arith, high, fill.high) }) h
    (subst (λ (k : Call). Allows t s d.faults_before d.faults_after d.choices k d.reply) fill.call_is allowed.allows)
    (subst (λ (k : Call). Allows t (at_slabs m f s) e.faults_before e.faults_after e.choices k e.reply) fill.other_is other.allows)
    (sym (filled_unread d.reply) ∙ ap is_filled out.replies ∙ filled_unread e.reply))))
    ask.calls)

events_alike : (p : Shape) (s : State) (d e : Entry) → AskAlike p s d e → SameOutcome d e d.reply e.reply → event e ≡ event d
events_alike p s d e ask out =
    ⊎_elim
    (λ same. sym (unread_event e.call e.reply) ∙ (λ i. event_of (sym same i) (sym out.replies i)) ∙ unread_event d.call d.reply)
    (λ fill. ap (λ (k : Call). event_of k e.reply) fill.other_is ∙ sym (ap (λ (k : Call). event_of k d.reply) fill.call_is))
    ask.calls

kind_same : (p : Shape) (s : State) (m : List (ℕ × Slab)) (f n : ℕ) → keys s.opens ≡ keys m → kind p s n ≡ kind p (at_slabs m f s) n
kind_same p s m f n keys_same =
    λ j. cond (partial_same p s m f keys_same n j) Partial (cond (empty_same p s m f keys_same n j) Empty Neither)

pub quarantine_by : (p : Shape) (d e : Entry) (ev : Event) (kept : Kept) → d.draws ≡ e.draws → quarantine_with p e ev kept ≡ quarantine_with p d ev kept
quarantine_by p d e (Picked a) kept same = refl
quarantine_by p d e (Returned a) kept same = ap (λ (w : Draws). kept_with kept a (array_index p w)) (sym same)
quarantine_by p d e Undrawn kept same = refl

pub parking_by : (t : Terms) (d e : Entry) (ev : Event) (parking : List (Option ℕ)) → d.draws ≡ e.draws → d.choices ≡ e.choices → parking_after t e ev parking ≡ parking_after t d ev parking
parking_by t d e (Picked a) parking same alike = refl
parking_by t d e (Returned a) parking same alike = λ i. parking_with (parking_index t (sym same i)) (sym alike i).retired parking
parking_by t d e Undrawn parking same alike = refl

pub cells_alike : (t : Terms) (c : Cells) (m slabs : List (ℕ × Slab)) (f : ℕ) (d e : Entry) → keys c.state.opens ≡ keys m → event e ≡ event d → SameOutcome d e d.reply e.reply
    → step t.shape (at_slabs m f c.state) e ≡ at_slabs slabs e.faults_after (step t.shape c.state d) → keys (step t.shape c.state d).opens ≡ keys slabs
    → next t (at_cells m f c) e ≡ at_cells slabs e.faults_after (next t c d)
cells_alike t c m slabs f d e h ev out after_is after_keys =
    let p : Shape = t.shape in
    let s : State = c.state in
    let s₁ : State = step p s d in
    let n : ℕ = touched p d.choices.released (event d) in
    let n' : ℕ = touched p e.choices.released (event e) in
    let at_n : n' ≡ n = λ i. touched p (sym out.choices i).released (ev i) in
    let first : kind p (at_slabs m f s) n' ≡ kind p s n = ap (λ (k : ℕ). kind p (at_slabs m f s) k) at_n ∙ sym (kind_same p s m f n h) in
    let last : kind p (step p (at_slabs m f s) e) n' ≡ kind p s₁ n =
    ap (λ (k : ℕ). kind p (step p (at_slabs m f s) e) k) at_n ∙ ap (λ (x : State). kind p x n) after_is ∙ sym (kind_same p s₁ slabs e.faults_after n after_keys) in
    let kept : quarantine_with p e (event e) c.quarantine ≡ quarantine_with p d (event d) c.quarantine =
    ap (λ (v : Event). quarantine_with p e v c.quarantine) ev ∙ quarantine_by p d e (event d) c.quarantine out.draws in
    let parked : parking_after t e (event e) c.parking ≡ parking_after t d (event d) c.parking =
    ap (λ (v : Event). parking_after t e v c.parking) ev ∙ parking_by t d e (event d) c.parking out.draws out.choices in
    λ i. record {
      state = after_is i;
      stream = after_words c.stream (sym out.draws i).used;
      partial = listed Partial (at_n i) (first i) (last i) c.partial;
      empty = listed Empty (at_n i) (first i) (last i) c.empty;
      quarantine = kept i;
      parking = parked i;
    }

-- ---- two histories
sound_other : (p : Shape) (s : State) (m : List (ℕ × Slab)) (f : ℕ) → AlikeSlabs p (IsUsable p s) s.opens m → IsSound p s → IsSound p (at_slabs m f s)
sound_other p s m f h fit = sound_faults p (record s { opens = m }) f (sound_bytes p s m (sym (alike_keys p (IsUsable p s) s.opens m h)) fit)

steers : (t : Terms) (c : Cells) (m : List (ℕ × Slab)) (f : ℕ) (es fs : List Entry) → IsShape t.shape → IsTrue t.told → IsSound t.shape c.state → AlikeSlabs t.shape (IsUsable t.shape c.state) c.state.opens m
    → Legal (step t.shape) (Allowed t) c.state es → Legal (step t.shape) (Allowed t) (at_slabs m f c.state) fs
    → Legal (next t) (IsSteppedEntry t) c es → Legal (next t) (IsSteppedEntry t) (at_cells m f c) fs
    → AllAskAlike t.shape c.state es fs → map outcome_of es ≡ map outcome_of fs
steers t c m f [] [] shape told fit h legal other stepped also ask = refl
steers t c m f [] (e ∷ fs) shape told fit h legal other stepped also ask = absurd ask
steers t c m f (d ∷ es) [] shape told fit h legal other stepped also ask = absurd ask
steers t c m f (d ∷ es) (e ∷ fs) shape told fit h legal other stepped also ask =
    let p : Shape = t.shape in
    let out = one_outcome t c m f shape told fit (sound_other p c.state m f h fit) h d e ask.0 legal.0 stepped.0 other.0 also.0 in
    let after = states_alike t c.state m f d e shape h ask.0 legal.0 other.0 out in
    let cells_are = cells_alike t c m after.slabs f d e (alike_keys p (IsUsable p c.state) c.state.opens m h) (events_alike p c.state d e ask.0 out) out after.is (alike_keys p (IsUsable p (step p c.state d)) (step p c.state d).opens after.slabs after.alike) in
    let rest = steers t (next t c d) after.slabs e.faults_after es fs shape told (sound_step t c.state d shape fit legal.0) after.alike legal.1
    (subst (λ (x : State). Legal (step p) (Allowed t) x fs) after.is other.1) stepped.1
    (subst (λ (x : Cells). Legal (next t) (IsSteppedEntry t) x fs) cells_are also.1) ask.1 in
    λ i. record { reply = out.replies i; choices = out.choices i; draws = out.draws i } ∷ rest i

pub fills_steer_nothing : FillsSteerNothing
fills_steer_nothing seed arena t es fs h ask =
    steers t (first_cells seed arena t) [] 0 es fs h.shape h.told (sound_start t.shape h.shape) tt h.legal h.other_legal
    ((drawn_is_stepped seed arena t es h.parks h.shape h.legal).0 h.drawn).entries
    ((drawn_is_stepped seed arena t fs h.parks h.shape h.other_legal).0 h.other_drawn).entries ask
