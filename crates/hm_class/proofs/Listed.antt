-- How the lists, the stream, the quarantine and the parking parking follow the cells, entry by entry.
use Rattle.std.proofs.Common.{◌≡◌, ℕ, Bool, true, false, cond, List, [], Option, sym, ◌∙◌, ap, subst, refl}
use Rattle.hm_choice.specs.Stream.{Words}
use Rattle.hm_quarantine.specs.Quarantine.{Kept, kept_with}
use Rattle.hm_model.specs.declared.entry.Entry.{Entry}
use Rattle.hm_sizes.specs.declared.shape.Shape.{Shape}
use Rattle.hm_sizes.specs.Shapes.{IsShape, slab_of}
use Rattle.hm_class_rules.specs.State.{State, is_partial, is_empty}
use Rattle.hm_class_rules.specs.Kinds.{Kind, Partial, Empty, Neither, kind, same_kind}
use Rattle.hm_class_rules.specs.Draws.{words_of, words_from, after_words, Event, Picked, Returned, Undrawn, event, word_count, array_index, parking_index}
use Rattle.hm_class_rules.specs.Rules.{Terms}
use Rattle.hm_class_rules.specs.Steps.{step}
use Rattle.hm_class_rules.specs.Stepped.{Cells, next, listed, touched, quarantine_with, parking_after, parking_with, IsSteppedEntry, IsSteppedEvent}
use Rattle.hm_class_rules.proofs.Changes.{kind_empty}
use Rattle.hm_class.specs.declared.store.Store.{Store}
use Rattle.hm_class.specs.Uses.{kind_at}
use Rattle.hm_class.specs.Kept.{Shows, cells_of}
use Rattle.hm_class.proofs.Shown.{kind_is}

-- ---- kinds
-- a slab that stays what it is changes no list
pub listed_same : (wanted k : Kind) (n : ℕ) (list : List ℕ) → listed wanted n k k list ≡ list
listed_same wanted Partial n list = refl
listed_same wanted Empty n list = refl
listed_same wanted Neither n list = refl

-- ---- cells
-- cells that are equal part by part
pub same_cells : (s : State) {stream stream' : Words} {partial partial' empty empty' : List ℕ} {q q' : Kept} {parking parking' : List (Option ℕ)} → stream ≡ stream' → partial ≡ partial' → empty ≡ empty' → q ≡ q' → parking ≡ parking'
    → (let x : Cells = record { state = s; stream = stream; partial = partial; empty = empty; quarantine = q; parking = parking } in
    let y : Cells = record { state = s; stream = stream'; partial = partial'; empty = empty'; quarantine = q'; parking = parking' } in x ≡ y)
same_cells s e f g h i = cc

-- the cells after an entry, by what it is and the state after it
abbrev next_by : Terms → Cells → Entry → Event → State → Cells
next_by t c e ev after = record {
  state = after;
  stream = after_words c.stream e.draws.used;
  partial = listed Partial (touched t.shape e.choices.released ev) (kind t.shape c.state (touched t.shape e.choices.released ev)) (kind t.shape after (touched t.shape e.choices.released ev)) c.partial;
  empty = listed Empty (touched t.shape e.choices.released ev) (kind t.shape c.state (touched t.shape e.choices.released ev)) (kind t.shape after (touched t.shape e.choices.released ev)) c.empty;
  quarantine = quarantine_with t.shape e ev c.quarantine;
  parking = parking_after t e ev c.parking;
}

next_is : (t : Terms) (c : Cells) (e : Entry) (ev : Event) → event e ≡ ev → next t c e ≡ next_by t c e ev (step t.shape c.state e)
next_is t c e ev is = ap (λ (x : Event). next_by t c e x (step t.shape c.state e)) is

-- the lists, where slab n, which was `before`, is `after`
pub listed_as : (wanted : Kind) (p : Shape) (s after : State) (m : ℕ) {n : ℕ} {before then : Kind} (list : List ℕ) {list' : List ℕ} → m ≡ n → kind p s n ≡ before → kind p after n ≡ then → list' ≡ listed wanted n before then list
    → listed wanted m (kind p s m) (kind p after m) list ≡ list'
listed_as wanted p s after m {n = n} {before = before} list same was is new =
    ap (λ (k : ℕ). listed wanted k (kind p s k) (kind p after k) list) same
    ∙ ap (λ (k : Kind). listed wanted n k (kind p after n) list) was
    ∙ ap (λ (k : Kind). listed wanted n before k list) is
    ∙ sym new

-- ---- an entry that draws nothing
pub next_undrawn : (t : Terms) (s : State) (store : Store) (e : Entry) → IsShape t.shape → event e ≡ Undrawn → e.draws.used ≡ 0 → Shows t.shape store.slabs.slabs s → Shows t.shape store.slabs.slabs (step t.shape s e)
    → next t (cells_of s store) e ≡ cells_of (step t.shape s e) store
next_undrawn t s store e shape is none h h' =
    let same : kind t.shape (step t.shape s e) 0 ≡ kind t.shape s 0 = kind_is t.shape store.slabs.slabs (step t.shape s e) 0 shape h' ∙ sym (kind_is t.shape store.slabs.slabs s 0 shape h) in
    let at0 : (wanted : Kind) (list : List ℕ) → listed wanted 0 (kind t.shape s 0) (kind t.shape (step t.shape s e) 0) list ≡ list =
    λ wanted list. ap (λ (x : Kind). listed wanted 0 (kind t.shape s 0) x list) same ∙ listed_same wanted (kind t.shape s 0) 0 list in
    next_is t (cells_of s store) e Undrawn is
    ∙ same_cells (step t.shape s e) (ap (λ (n : ℕ). after_words store.stream n) none) (at0 Partial store.slabs.lists.partial) (at0 Empty store.slabs.lists.empty) refl refl

pub stepped_undrawn : (t : Terms) (c : Cells) (e : Entry) → event e ≡ Undrawn → e.draws.used ≡ 0 → words_of e.draws ≡ [] → IsSteppedEntry t c e
stepped_undrawn t c e is none no_words = record {
  count = none ∙ ap (λ (ev : Event). word_count t e.choices ev) (sym is);
  words = no_words ∙ ap (λ (n : ℕ). words_from c.stream n) (sym none);
  choices = subst (λ (ev : Event). IsSteppedEvent t c e ev) (sym is) tt;
}

-- ---- a slot was picked
-- what is kept after an entry that picked a slot of slab n, which was `before`: its words are taken, and the slab stands
-- in the list of its kind
pub record KeepsPicked (t : Terms) (s : State) (e : Entry) (n : ℕ) (before : Kind) (store store' : Store) : Type 0 where
  pub was : kind t.shape s n ≡ before
  pub taken : after_words store.stream e.draws.used ≡ store'.stream
  pub partial : store'.slabs.lists.partial ≡ listed Partial n before (kind_at store'.slabs.slabs n) store.slabs.lists.partial
  pub empty : store'.slabs.lists.empty ≡ listed Empty n before (kind_at store'.slabs.slabs n) store.slabs.lists.empty
  pub quarantine : store'.quarantine ≡ store.quarantine
  pub parking : store'.slabs.parking ≡ store.slabs.parking

pub next_picked : (t : Terms) (s : State) (e : Entry) (store store' : Store) {a n : ℕ} {before : Kind} → IsShape t.shape → event e ≡ Picked a → slab_of t.shape a ≡ n → Shows t.shape store'.slabs.slabs (step t.shape s e)
    → KeepsPicked t s e n before store store' → next t (cells_of s store) e ≡ cells_of (step t.shape s e) store'
next_picked t s e store store' {a = a} {n = n} shape is slab h' keeps =
    let now : kind t.shape (step t.shape s e) n ≡ kind_at store'.slabs.slabs n = kind_is t.shape store'.slabs.slabs (step t.shape s e) n shape h' in
    next_is t (cells_of s store) e (Picked a) is
    ∙ same_cells (step t.shape s e) keeps.taken
    (listed_as Partial t.shape s (step t.shape s e) (slab_of t.shape a) store.slabs.lists.partial slab keeps.was now keeps.partial)
    (listed_as Empty t.shape s (step t.shape s e) (slab_of t.shape a) store.slabs.lists.empty slab keeps.was now keeps.empty)
    (sym keeps.quarantine) (sym keeps.parking)

-- ---- a slot was freed
-- what is kept after an entry that took the slot at a back, where slab n, which was `before`, is `then`
pub record KeepsFreed (t : Terms) (s : State) (e : Entry) (a n : ℕ) (before then : Kind) (store store' : Store) : Type 0 where
  pub slab : touched t.shape e.choices.released (Returned a) ≡ n
  pub was : kind t.shape s n ≡ before
  pub now : kind t.shape (step t.shape s e) n ≡ then
  pub taken : after_words store.stream e.draws.used ≡ store'.stream
  pub partial : store'.slabs.lists.partial ≡ listed Partial n before then store.slabs.lists.partial
  pub empty : store'.slabs.lists.empty ≡ listed Empty n before then store.slabs.lists.empty
  pub quarantine : store'.quarantine ≡ kept_with store.quarantine a (array_index t.shape e.draws)
  pub parking : store'.slabs.parking ≡ parking_with (parking_index t e.draws) e.choices.retired store.slabs.parking

pub next_freed : (t : Terms) (s : State) (e : Entry) (store store' : Store) {a n : ℕ} {before then : Kind} → event e ≡ Returned a → KeepsFreed t s e a n before then store store'
    → next t (cells_of s store) e ≡ cells_of (step t.shape s e) store'
next_freed t s e store store' {a = a} is keeps =
    next_is t (cells_of s store) e (Returned a) is
    ∙ same_cells (step t.shape s e) keeps.taken
    (listed_as Partial t.shape s (step t.shape s e) (touched t.shape e.choices.released (Returned a)) store.slabs.lists.partial keeps.slab keeps.was keeps.now keeps.partial)
    (listed_as Empty t.shape s (step t.shape s e) (touched t.shape e.choices.released (Returned a)) store.slabs.lists.empty keeps.slab keeps.was keeps.now keeps.empty)
    (sym keeps.quarantine) (sym keeps.parking)

-- a slab is partial where its kind is that
pub partial_kind : (p : Shape) (s : State) (n : ℕ) → same_kind (kind p s n) Partial ≡ is_partial p s n
partial_kind p s n = of (is_partial p s n) (is_empty p s n)
  where
    of : (x y : Bool) → same_kind (cond {A = Kind} x Partial (cond y Empty Neither)) Partial ≡ x
    of true y = refl
    of false true = refl
    of false false = refl

-- ---- too many empty slabs
-- a slab is empty where its kind is that
pub empty_kind : (p : Shape) (s : State) (n : ℕ) → same_kind (kind p s n) Empty ≡ is_empty p s n
empty_kind p s n = of (is_empty p s n) refl
  where
    of : (t : Bool) → is_empty p s n ≡ t → same_kind (kind p s n) Empty ≡ t
    of true e = ap (λ (k : Kind). same_kind k Empty) (kind_empty p s n e)
    of false e = ap (λ (b : Bool). same_kind (cond {A = Kind} (is_partial p s n) Partial (cond b Empty Neither)) Empty) e ∙ never (is_partial p s n)
      where
        never : (b : Bool) → same_kind (cond {A = Kind} b Partial Neither) Empty ≡ false
        never true = refl
        never false = refl
