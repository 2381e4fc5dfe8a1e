-- Looking back through a legal history and going through it step by step say the same of its choices.
use Rattle.std.proofs.Common.{◌≡◌, ℕ, zero, suc, ◌+◌, ◌*◌, ◌/◌, ◌^◌, ◌<◌, ◌≤◌, ◌==◌, Bool, false, cond, ◌||◌, ◌&&◌, List, [], ◌∷◌, get_or, Option, Some, None, sym, ◌∙◌, ap, subst, refl, arith}
use Rattle.std.specs.List.{list_any, list_all, range_with_len}
use Rattle.std.proofs.lemmas.Nat.{div_below}
use Rattle.hm_choice.specs.Stream.{drawn}
use Rattle.hm_quarantine.specs.Quarantine.{Kept, IsArrayIndex, let_go}
use Rattle.hm_quarantine.specs.LookingBack.{Free, latest_at, released, AreIndices, kept_after}
use Rattle.hm_quarantine.proofs.Passes.{stands, looks_back}
use Rattle.hm_model.specs.Machine.{Legal}
use Rattle.hm_model.specs.declared.entry.Entry.{Entry}
use Rattle.hm_model.specs.declared.entry.Draws.{Draws}
use Rattle.hm_sizes.specs.declared.shape.Shape.{Shape}
use Rattle.hm_sizes.specs.Shapes.{IsShape, slab_of}
use Rattle.hm_class_rules.specs.State.{State, start, is_free, is_empty}
use Rattle.hm_class_rules.specs.Steps.{step}
use Rattle.hm_class_rules.specs.Rules.{Terms, Allowed, IsLegal}
use Rattle.hm_class_rules.specs.Draws.{Event, Picked, Returned, Undrawn, event, word_after, array_index, parking_index}
use Rattle.hm_class_rules.specs.Kinds.{Kind, Partial, Empty, Neither, kind, now}
use Rattle.hm_class_rules.specs.Drawn.{IsPicked, state_after_past, kinds_after, free_at, with_free, frees_of, Retirement, with_retired, with_retirement, retirements_of, latest_parked, unparked_by, IsDrawnPicking, IsDrawnEvent, AreDrawn}
use Rattle.hm_class_rules.specs.Stepped.{Cells, first_cells, touched, listed, quarantine_with, parking_with, parking_after, next, IsSteppedPicking, IsSteppedEvent, IsSteppedEntry}
use Rattle.hm_class_rules.specs.DrawnLaws.{DrawnIsStepped}
use Rattle.hm_class_rules.proofs.Streams.{AreWords, words_below, Follow, AreShort, follow, consecutive, few_words}
use Rattle.hm_class_rules.proofs.Fronts.{Shows, shows_after, source_is, is_source}
use Rattle.hm_class_rules.proofs.Changes.{kind_by, changes_one}

-- ---- what is drawn is below its bound
pub drawn_below : (n word : ℕ) → 0 < n → word < 2 ^ 32 → drawn n word < n
drawn_below n word some low = div_below (word * n) (2 ^ 32) n (omega arith) (product word (2 ^ 32) n some low)
  where
    product : (w k n : ℕ) → 0 < n → w < k → w * n < n * k
    product w k n some low = grind arith

drawn_index : (n word : ℕ) → word < 2 ^ 32 → IsArrayIndex n (drawn n word)
drawn_index zero word low = none word
  where
    none : (w : ℕ) → w * 0 / 2 ^ 32 ≡ 0
    none w = omega arith
drawn_index (suc n) word low = drawn_below (suc n) word (omega arith) low

word_below : (d : Draws) → AreWords d → (k : ℕ) → word_after k d < 2 ^ 32
word_below d words zero = omega arith
word_below d words (suc zero) = omega arith
word_below d words (suc (suc zero)) = omega arith
word_below d words (suc (suc (suc k))) = omega arith

pub parking_below : (t : Terms) (d : Draws) → 1 ≤ t.config.park_length → AreWords d → parking_index t d < t.config.park_length
parking_below t d some words = drawn_below t.config.park_length _ some (word_below d words _)

-- ---- at first no slab is open
none_any : (f : ℕ → Bool) (a n : ℕ) → ((j : ℕ) → f j ≡ false) → list_any f (range_with_len a n) ≡ false
none_any f a zero none = refl
none_any f a (suc n) none = subst (λ (b : Bool). b ≡ false) (sym (either (f a) (list_any f (range_with_len (a + 1) n)) (none a))) (none_any f (a + 1) n none)
  where
    either : (b c : Bool) → b ≡ false → (b || c) ≡ c
    either b c e = ap (λ x. x || c) e

none_all : (f : ℕ → Bool) (n : ℕ) → 1 ≤ n → f 0 ≡ false → list_all f (range_with_len 0 n) ≡ false
none_all f zero some none = absurd (omega arith)
none_all f (suc n) some none = ap (λ b. b && list_all f (range_with_len (0 + 1) n)) none

none_open : (p : Shape) → IsShape p → (n : ℕ) → kind p start n ≡ Neither
none_open p shape n =
    ap (λ b. kind_by b (is_empty p start n)) (none_any (is_free p start n) 0 p.slots (λ j. refl))
    ∙ ap (λ b. kind_by false b) (none_all (is_free p start n) p.slots shape.slots_some refl)

pub now_is : (t : Terms) → IsShape t.shape → (past : List Entry) (n : ℕ) → now (kinds_after t past) n ≡ kind t.shape (state_after_past t past) n
now_is t shape [] n = sym (none_open t.shape shape n)
now_is t shape (e ∷ past) n = refl

-- ---- the parking array, as an array without a ring
abbrev as_frees : List Retirement → List Free
as_frees [] = []
as_frees (r ∷ past) = record { slot = r.slab; index = r.index } ∷ as_frees past

abbrev parked_after : ℕ → List Retirement → List (Option ℕ)
parked_after n past = (kept_after n 0 (as_frees past)).array

latest_is : (index : ℕ) (past : List Retirement) → latest_at index (as_frees past) ≡ latest_parked index past
latest_is index [] = refl
latest_is index (r ∷ past) = ap (λ (o : Option ℕ). cond (r.index == index) (Some r.slab) o) (latest_is index past)

parks : (n index : ℕ) (past : List Retirement) → index < n → get_or (parked_after n past) index None ≡ latest_parked index past
parks n index past lt = stands n 0 index (as_frees past) lt ∙ latest_is index past

-- ---- what the lists are after a legal past
pub record Shown (t : Terms) (past : List Entry) (c : Cells) : Type 0 where
  pub state_is : c.state ≡ state_after_past t past
  pub partial : Shows Partial (kinds_after t past) c.partial
  pub empty : Shows Empty (kinds_after t past) c.empty
  pub indices : AreIndices t.shape.array (frees_of t past)
  pub quarantine : c.quarantine ≡ kept_after t.shape.array t.shape.ring (frees_of t past)
  pub parking : c.parking ≡ parked_after t.config.park_length (retirements_of t past)

pub first_shown : (seed arena : ℕ) (t : Terms) → Shown t [] (first_cells seed arena t)
first_shown seed arena t = record {
  state_is = refl;
  partial = record { has = λ n. refl; falls = tt };
  empty = record { has = λ n. refl; falls = tt };
  indices = tt;
  quarantine = refl;
  parking = refl;
}

list_shown : (t : Terms) (past : List Entry) (c : Cells) (e : Entry) (wanted : Kind) (list : List ℕ) → IsShape t.shape → c.state ≡ state_after_past t past → Allowed t (state_after_past t past) e
    → Shows wanted (kinds_after t past) list
    → let n = touched t.shape e.choices.released (event e) in Shows wanted (kinds_after t (e ∷ past)) (listed wanted n (kind t.shape c.state n) (kind t.shape (step t.shape c.state e) n) list)
list_shown t past c e wanted list shape is allowed shows =
    let n : ℕ = touched t.shape e.choices.released (event e) in
    let s : State = state_after_past t past in
    let path : listed wanted n (kind t.shape c.state n) (kind t.shape (step t.shape c.state e) n) list ≡ listed wanted n (now (kinds_after t past) n) (kind t.shape (step t.shape s e) n) list =
    ap (λ (s : State). listed wanted n (kind t.shape s n) (kind t.shape (step t.shape s e) n) list) is
    ∙ ap (λ (k : Kind). listed wanted n k (kind t.shape (step t.shape s e) n) list) (sym (now_is t shape past n)) in
    subst (λ (l : List ℕ). Shows wanted (kinds_after t (e ∷ past)) l) (sym path)
    (shows_after wanted (kind t.shape (step t.shape s e)) (kinds_after t past) n list
    (λ m ne. changes_one t s e.faults_before e.faults_after e.choices e.call e.reply shape allowed.allows m ne ∙ sym (now_is t shape past m))
    shows)

with_indices : (p : Shape) (d : Draws) (ev : Event) (frees : List Free) → IsArrayIndex p.array (array_index p d) → AreIndices p.array frees → AreIndices p.array (with_free p d ev frees)
with_indices p d (Picked a) frees is indices = indices
with_indices p d (Returned a) frees is indices = (is, indices)
with_indices p d Undrawn frees is indices = indices

with_kept : (p : Shape) (e : Entry) (ev : Event) (frees : List Free) → quarantine_with p e ev (kept_after p.array p.ring frees) ≡ kept_after p.array p.ring (with_free p e.draws ev frees)
with_kept p e (Picked a) frees = refl
with_kept p e (Returned a) frees = refl
with_kept p e Undrawn frees = refl

with_slab : (n index : ℕ) (o : Option ℕ) (past : List Retirement) → parking_with index o (parked_after n past) ≡ parked_after n (with_retired index o past)
with_slab n index None past = refl
with_slab n index (Some slab) past = refl

with_parked : (t : Terms) (e : Entry) (ev : Event) (past : List Retirement) → parking_after t e ev (parked_after t.config.park_length past) ≡ parked_after t.config.park_length (with_retirement t e ev past)
with_parked t e (Picked a) past = refl
with_parked t e (Returned a) past = with_slab t.config.park_length (parking_index t e.draws) e.choices.retired past
with_parked t e Undrawn past = refl

pub next_shown : (t : Terms) (past : List Entry) (c : Cells) (e : Entry) → IsShape t.shape → Shown t past c → Allowed t (state_after_past t past) e → AreWords e.draws → Shown t (e ∷ past) (next t c e)
next_shown t past c e shape shown allowed words = record {
  state_is = ap (λ (s : State). step t.shape s e) shown.state_is;
  partial = list_shown t past c e Partial c.partial shape shown.state_is allowed shown.partial;
  empty = list_shown t past c e Empty c.empty shape shown.state_is allowed shown.empty;
  indices = with_indices t.shape e.draws (event e) (frees_of t past) (drawn_index t.shape.array e.draws.w0 words.first) shown.indices;
  quarantine = ap (quarantine_with t.shape e (event e)) shown.quarantine ∙ with_kept t.shape e (event e) (frees_of t past);
  parking = ap (parking_after t e (event e)) shown.parking ∙ with_parked t e (event e) (retirements_of t past);
}

-- ---- one entry
pub released_alike : (t : Terms) (past : List Entry) (c : Cells) (e : Entry) (a : ℕ) → Shown t past c → AreWords e.draws
    → let_go c.quarantine a (array_index t.shape e.draws) ≡ released t.shape.array t.shape.ring (frees_of t past) (free_at t.shape e.draws a)
released_alike t past c e a shown words =
    ap (λ (k : Kept). let_go k a (array_index t.shape e.draws)) shown.quarantine
    ∙ looks_back t.shape.array t.shape.ring (frees_of t past) (free_at t.shape e.draws a) (drawn_index t.shape.array e.draws.w0 words.first, shown.indices)

unparked_alike : (t : Terms) (past : List Entry) (c : Cells) (e : Entry) → 1 ≤ t.config.park_length → Shown t past c → AreWords e.draws
    → unparked_by e.choices.retired (get_or c.parking (parking_index t e.draws) None) ≡ unparked_by e.choices.retired (latest_parked (parking_index t e.draws) (retirements_of t past))
unparked_alike t past c e some shown words =
    ap (λ (l : List (Option ℕ)). unparked_by e.choices.retired (get_or l (parking_index t e.draws) None)) shown.parking
    ∙ ap (unparked_by e.choices.retired) (parks t.config.park_length (parking_index t e.draws) (retirements_of t past) (parking_below t e.draws some words))

picking_there : (t : Terms) (past : List Entry) (c : Cells) (e : Entry) (a : ℕ) → Shown t past c → IsDrawnPicking t past e a → IsSteppedPicking t c e a
picking_there t past c e a shown h = record {
  picked = subst (λ (s : State). IsPicked t s e a) (sym shown.state_is) h.picked;
  source = λ none. is_source (kinds_after t past) c.partial c.empty shown.partial shown.empty (slab_of t.shape a) (h.source none);
}

picking_back : (t : Terms) (past : List Entry) (c : Cells) (e : Entry) (a : ℕ) → Shown t past c → IsSteppedPicking t c e a → IsDrawnPicking t past e a
picking_back t past c e a shown h = record {
  picked = subst (λ (s : State). IsPicked t s e a) shown.state_is h.picked;
  source = λ none. source_is (kinds_after t past) c.partial c.empty shown.partial shown.empty (slab_of t.shape a) (h.source none);
}

event_there : (t : Terms) (past : List Entry) (c : Cells) (e : Entry) (ev : Event) → 1 ≤ t.config.park_length → Shown t past c → AreWords e.draws → IsDrawnEvent t past e ev → IsSteppedEvent t c e ev
event_there t past c e (Picked a) some shown words h = picking_there t past c e a shown h
event_there t past c e (Returned a) some shown words h = record {
  released = h.released ∙ sym (released_alike t past c e a shown words);
  unparked = h.unparked ∙ sym (unparked_alike t past c e some shown words);
}
event_there t past c e Undrawn some shown words h = tt

event_back : (t : Terms) (past : List Entry) (c : Cells) (e : Entry) (ev : Event) → 1 ≤ t.config.park_length → Shown t past c → AreWords e.draws → IsSteppedEvent t c e ev → IsDrawnEvent t past e ev
event_back t past c e (Picked a) some shown words h = picking_back t past c e a shown h
event_back t past c e (Returned a) some shown words h = record {
  released = h.released ∙ released_alike t past c e a shown words;
  unparked = h.unparked ∙ unparked_alike t past c e some shown words;
}
event_back t past c e Undrawn some shown words h = tt

-- ---- a history, with what came before it
there : (t : Terms) (past : List Entry) (c : Cells) (es : List Entry) → 1 ≤ t.config.park_length → IsShape t.shape → Shown t past c → Legal (step t.shape) (Allowed t) (state_after_past t past) es
    → AreDrawn t past es → Follow c.stream es → Legal (next t) (IsSteppedEntry t) c es
there t past c [] some shape shown legal h words = tt
there t past c (e ∷ es) some shape shown legal h words =
    let below : AreWords e.draws = words_below e.draws c.stream legal.0.draws words.0 in (
      record { count = h.0.words; words = words.0; choices = event_there t past c e (event e) some shown below h.0.choices },
      there t (e ∷ past) (next t c e) es some shape (next_shown t past c e shape shown legal.0 below) legal.1 h.1 words.1,
    )

back : (t : Terms) (past : List Entry) (c : Cells) (es : List Entry) → 1 ≤ t.config.park_length → IsShape t.shape → Shown t past c → Legal (step t.shape) (Allowed t) (state_after_past t past) es
    → Legal (next t) (IsSteppedEntry t) c es → AreDrawn t past es × Follow c.stream es
back t past c [] some shape shown legal h = (tt, tt)
back t past c (e ∷ es) some shape shown legal h =
    let below : AreWords e.draws = words_below e.draws c.stream legal.0.draws h.0.words in
    let rest : AreDrawn t (e ∷ past) es × Follow (next t c e).stream es =
    back t (e ∷ past) (next t c e) es some shape (next_shown t past c e shape shown legal.0 below) legal.1 h.1 in
    ((record { words = h.0.count; choices = event_back t past c e (event e) some shown below h.0.choices }, rest.0), (h.0.words, rest.1))

-- what is drawn step by step is drawn by looking back
pub stepped_drawn : (seed arena : ℕ) (t : Terms) (es : List Entry) → 1 ≤ t.config.park_length → IsShape t.shape → IsLegal t es → Legal (next t) (IsSteppedEntry t) (first_cells seed arena t) es → AreDrawn t [] es
stepped_drawn seed arena t es some shape legal h = (back t [] (first_cells seed arena t) es some shape (first_shown seed arena t) legal h).0

short : (t : Terms) (past es : List Entry) → AreDrawn t past es → AreShort es
short t past [] h = tt
short t past (e ∷ es) h = (subst (λ (n : ℕ). n ≤ 3) (sym h.0.words) (few_words t e.choices (event e)), short t (e ∷ past) es h.1)

pub drawn_is_stepped : DrawnIsStepped
drawn_is_stepped seed arena t es some shape legal = (
  λ h. record {
    shape = h.shape;
    entries = there t [] (first_cells seed arena t) es some shape (first_shown seed arena t) legal h.choices (follow (first_cells seed arena t).stream es (short t [] es h.choices) h.words);
  },
  λ h. let both : AreDrawn t [] es × Follow (first_cells seed arena t).stream es = back t [] (first_cells seed arena t) es some shape (first_shown seed arena t) legal h.entries in record {
    shape = h.shape;
    words = consecutive (first_cells seed arena t).stream es both.1;
    choices = both.0;
  },
)
