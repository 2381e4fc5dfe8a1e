-- What the lists of a legal and drawn history hold, and that what is drawn next is legal.
use Rattle.std.proofs.Common.{◌≡◌, ℕ, ◌+◌, ◌*◌, ◌/◌, ◌%◌, ◌^◌, ◌<◌, ◌≤◌, ◌==◌, cond, List, [], ◌∷◌, length, Option, Some, None, sym, ◌∙◌, ap, subst, refl, arith}
use Rattle.std.proofs.lemmas.Nat.{div-add-mod'}
use Rattle.std.proofs.Math.Nat.{mul-mod_left}
use Rattle.hm_choice.specs.Stream.{next_word, drawn}
use Rattle.hm_quarantine.specs.Quarantine.{Kept}
use Rattle.hm_quarantine.specs.LookingBack.{Free, AreIndices, kept_after}
use Rattle.hm_quarantine.specs.Delay.{quarantined}
use Rattle.hm_quarantine.proofs.Passes.{length_array, length_is}
use Rattle.hm_quarantine.proofs.Counts.{count_in}
use Rattle.hm_model.specs.Machine.{state_after, Legal, Legal_push, Legal_split, state_push}
use Rattle.hm_model.specs.Maps.{times}
use Rattle.hm_model.specs.declared.entry.Entry.{Entry}
use Rattle.hm_sizes.proofs.Shaped.{shape_fits}
use Rattle.hm_sizes.specs.declared.shape.Shape.{Shape}
use Rattle.hm_sizes.specs.Shapes.{IsShape}
use Rattle.hm_class_rules.specs.State.{State}
use Rattle.hm_class_rules.specs.Steps.{step}
use Rattle.hm_class_rules.specs.Rules.{Terms, Allowed}
use Rattle.hm_class_rules.specs.Laws.{IsSound}
use Rattle.hm_class_rules.specs.Draws.{stream_of, gap_of, Event, Picked, Returned, Undrawn, event, parking_index}
use Rattle.hm_class_rules.specs.Drawn.{state_after_past, kinds_after, frees_of}
use Rattle.hm_class_rules.specs.Stepped.{Cells, first_cells, parking_after, next, IsSteppedEvent, IsSteppedEntry}
use Rattle.hm_class_rules.specs.DrawnLaws.{OneMoreStepped, OneLessStepped, NextCells, DrawnShapeFits, times_in, AreKept, ListsAreKept, AllowsDrawn, DrawnIsAllowed}
use Rattle.hm_class_rules.proofs.Legal.{sound_start, sound_step}
use Rattle.hm_class_rules.proofs.Streams.{next_below, AreWords, words_below}
use Rattle.hm_class_rules.proofs.Alike.{drawn_below, Shown, first_shown, next_shown, now_is, released_alike, parking_below}
use Rattle.hm_class_rules.proofs.Waiting.{AreQuarantined, ReleasesDrawn, quarantined_next, release_allowed, ring_few, are_counted}
use Rattle.hm_class_rules.proofs.Parking.{AreParked, none_parked, UnparksDrawn, parking_by, parked_next, unpark_allowed, times_same}
use Rattle.hm_class_rules.proofs.Listed.{KindsAre, partial_times, empty_times, empty_length, front_source, no_front}

-- all that holds after a legal and drawn past
record IsReached (t : Terms) (past : List Entry) (c : Cells) : Type 0 where
  shown : Shown t past c
  sound : IsSound t.shape (state_after_past t past)
  quarantined : AreQuarantined t.shape (frees_of t past) (state_after_past t past).quarantined (state_after_past t past).frees
  parked : AreParked t.config.park_length (state_after_past t past).parked c.parking

first_reached : (seed arena : ℕ) (t : Terms) → IsShape t.shape → IsReached t [] (first_cells seed arena t)
first_reached seed arena t shape = record {
  shown = first_shown seed arena t;
  sound = sound_start t.shape shape;
  quarantined = record { quarantined_is = refl; frees_is = refl; new = tt };
  parked = none_parked t.config.park_length;
}

releases_drawn : (t : Terms) (past : List Entry) (c : Cells) (e : Entry) (ev : Event) → Shown t past c → AreWords e.draws → IsSteppedEvent t c e ev → ReleasesDrawn t.shape (frees_of t past) e.draws e.choices ev
releases_drawn t past c e (Picked a) shown words h = tt
releases_drawn t past c e (Returned a) shown words h = h.released ∙ released_alike t past c e a shown words
releases_drawn t past c e Undrawn shown words h = tt

unparks_drawn : (t : Terms) (c : Cells) (e : Entry) (ev : Event) → IsSteppedEvent t c e ev → UnparksDrawn (parking_index t e.draws) e.choices ev c.parking
unparks_drawn t c e (Picked a) h = tt
unparks_drawn t c e (Returned a) h = h.unparked
unparks_drawn t c e Undrawn h = tt

same_parking : (t : Terms) (e : Entry) (ev : Event) (parking : List (Option ℕ)) → parking_by (parking_index t e.draws) e.choices ev parking ≡ parking_after t e ev parking
same_parking t e (Picked a) parking = refl
same_parking t e (Returned a) parking = refl
same_parking t e Undrawn parking = refl

parked_once : (p : Shape) (s : State) (n : ℕ) → IsSound p s → times n s.parked ≤ 1
parked_once p s n sound = omega (arith, sound.slab_once n)

next_reached : (t : Terms) (past : List Entry) (c : Cells) (e : Entry) → 1 ≤ t.config.park_length → IsShape t.shape → IsReached t past c → Allowed t (state_after_past t past) e → IsSteppedEntry t c e → IsReached t (e ∷ past) (next t c e)
next_reached t past c e some shape reached allowed h =
    let s : State = state_after_past t past in
    let words : AreWords e.draws = words_below e.draws c.stream allowed.draws h.words in
    record {
      shown = next_shown t past c e shape reached.shown allowed words;
      sound = sound_step t s e shape reached.sound allowed;
      quarantined = quarantined_next t s (frees_of t past) e.draws e.faults_before e.faults_after e.choices e.call e.reply reached.sound allowed.allows (releases_drawn t past c e (event e) reached.shown words h.choices) reached.quarantined;
      parked = subst (λ (l : List (Option ℕ)). AreParked t.config.park_length (step t.shape s e).parked l) (same_parking t e (event e) c.parking)
          (parked_next t s t.config.park_length (parking_index t e.draws) c.parking e.choices e.call e.reply (λ n. parked_once t.shape s n reached.sound) (parking_below t e.draws some words)
          (unparks_drawn t c e (event e) h.choices) reached.parked);
    }

-- at the end of the entries
record Ends (t : Terms) (s : State) (c : Cells) : Type 0 where
  past : List Entry
  state_is : state_after_past t past ≡ s
  reached : IsReached t past c

ends : (t : Terms) (past : List Entry) (c : Cells) (es : List Entry) → 1 ≤ t.config.park_length → IsShape t.shape → IsReached t past c → Legal (step t.shape) (Allowed t) (state_after_past t past) es → Legal (next t) (IsSteppedEntry t) c es
    → Ends t (state_after (step t.shape) (Allowed t) (state_after_past t past) es) (state_after (next t) (IsSteppedEntry t) c es)
ends t past c [] some shape reached legal h = record { past = past; state_is = refl; reached = reached }
ends t past c (e ∷ es) some shape reached legal h = ends t (e ∷ past) (next t c e) es some shape (next_reached t past c e some shape reached legal.0 h.0) legal.1 h.1

-- ---- what holds there
times_array : (a : ℕ) (array : List (Option ℕ)) → count_in (λ x. x == a) array ≡ times_in a array
times_array a [] = refl
times_array a (None ∷ array) = omega (arith, times_array a array)
times_array a (Some x ∷ array) = ap (λ (n : ℕ). cond (x == a) 1 0 + n) (times_array a array)

-- the addresses in quarantine stand in the array and the ring
quarantined_times : (p : Shape) (frees : List Free) (kept : Kept) (list accepted : List ℕ) (a : ℕ) → AreQuarantined p frees list accepted → AreIndices p.array frees → kept ≡ kept_after p.array p.ring frees
    → times_in a kept.array + times a kept.ring ≡ times a list
quarantined_times p frees kept list accepted a are indices is =
    ap (λ (k : Kept). times_in a k.array + times a k.ring) is
    ∙ omega (arith, (are_counted p.array p.ring frees indices are.new).counts (λ x. x == a), times_array a (kept_after p.array p.ring frees).array, times_same a (kept_after p.array p.ring frees).ring, times_same a (quarantined p.array p.ring frees))
    ∙ ap (λ (l : List ℕ). times a l) (sym are.quarantined_is)

kinds_are : (t : Terms) (past : List Entry) → IsShape t.shape → KindsAre t.shape (state_after_past t past) (kinds_after t past)
kinds_are t past shape n = now_is t shape past n

kept_there : (t : Terms) (past : List Entry) (c : Cells) → IsShape t.shape → IsReached t past c → AreKept t (state_after_past t past) c
kept_there t past c shape reached =
    let s : State = state_after_past t past in
    let shown : Shown t past c = reached.shown in
    record {
      state_is = shown.state_is;
      partial = λ n. partial_times t.shape s (kinds_after t past) c.partial (kinds_are t past shape) shown.partial n;
      empty = λ n. empty_times t.shape s (kinds_after t past) c.empty (kinds_are t past shape) shown.empty n;
      empty_count = empty_length t.shape s (kinds_after t past) c.empty shape reached.sound (kinds_are t past shape) shown.empty;
      quarantined = λ a. quarantined_times t.shape (frees_of t past) c.quarantine s.quarantined s.frees a reached.quarantined shown.indices shown.quarantine;
      parked = λ n. sym (times_array n c.parking) ∙ sym (reached.parked.counts (λ x. x == n)) ∙ times_same n s.parked;
      array_length = ap (λ (k : Kept). length k.array) shown.quarantine ∙ length_array t.shape.array t.shape.ring (frees_of t past);
      ring_length = ap (λ (k : Kept). k.ring_length) shown.quarantine ∙ length_is t.shape.array t.shape.ring (frees_of t past);
      ring_most = subst (λ (k : Kept). length k.ring ≤ t.shape.ring) (sym shown.quarantine) (ring_few t.shape.array t.shape.ring (frees_of t past) shown.indices);
      parking_length = reached.parked.length_is;
    }

allows_there : (t : Terms) (past : List Entry) (c : Cells) → IsShape t.shape → IsReached t past c → AllowsDrawn t (state_after_past t past) c
allows_there t past c shape reached =
    let s : State = state_after_past t past in
    let shown : Shown t past c = reached.shown in
    record {
      source = front_source t.shape s (kinds_after t past) c.partial c.empty (kinds_are t past shape) shown.partial shown.empty;
      no_source = no_front t.shape s (kinds_after t past) c.partial c.empty (kinds_are t past shape) shown.partial shown.empty;
      release = λ a place live at_place. release_allowed t.shape s (frees_of t past) c.quarantine a place reached.sound reached.quarantined shown.indices shown.quarantine live at_place;
      unparked = λ place lt. unpark_allowed t.config.park_length place s.parked c.parking reached.parked (λ n. parked_once t.shape s n reached.sound) lt;
    }

pub lists_are_kept : ListsAreKept
lists_are_kept seed arena t es some shape legal h =
    let end = ends t [] (first_cells seed arena t) es some shape (first_reached seed arena t shape) legal h.entries in
    subst (λ (s : State). AreKept t s (state_after (next t) (IsSteppedEntry t) (first_cells seed arena t) es)) end.state_is (kept_there t end.past _ shape end.reached)

pub drawn_is_allowed : DrawnIsAllowed
drawn_is_allowed seed arena t es some shape legal h =
    let end = ends t [] (first_cells seed arena t) es some shape (first_reached seed arena t shape) legal h.entries in
    subst (λ (s : State). AllowsDrawn t s (state_after (next t) (IsSteppedEntry t) (first_cells seed arena t) es)) end.state_is (allows_there t end.past _ shape end.reached)

-- ---- one more entry
pub one_more_stepped : OneMoreStepped
one_more_stepped seed arena t es e h new = record { shape = h.shape; entries = Legal_push (next t) (IsSteppedEntry t) (first_cells seed arena t) es e h.entries new }

pub one_less_stepped : OneLessStepped
one_less_stepped seed arena t es e h =
    let parts = Legal_split (next t) (IsSteppedEntry t) (first_cells seed arena t) es (e ∷ []) h.entries in
    (record { shape = h.shape; entries = parts.0 }, parts.1.0)

pub next_cells : NextCells
next_cells seed arena t es e = state_push (next t) (IsSteppedEntry t) (first_cells seed arena t) es e

-- ---- the region's numbers
gap_whole : (n : ℕ) → (n * 4096) % 4096 ≡ 0
gap_whole n = mul-mod_left n 4096

gap_least : (n : ℕ) → 4096 ≤ (n + 1) * 4096
gap_least n = omega arith

pub gap_most : (n pages size : ℕ) → n < pages → pages * 4096 ≤ size → (n + 1) * 4096 ≤ size
gap_most n pages size lt fits = omega arith

pub pages_some : (size : ℕ) → 2 ^ 20 ≤ size → 0 < size / 4096
pages_some size least = omega (arith, div-add-mod' size 4096)

pub pages_within : (size : ℕ) → size / 4096 * 4096 ≤ size
pages_within size = omega (arith, div-add-mod' size 4096)

pub drawn_shape_fits : DrawnShapeFits
drawn_shape_fits seed c arena class valid lt below =
    let word : ℕ = next_word (stream_of seed arena class) in
    let n : ℕ = drawn (c.class_region / 4096) word in
    let less : n < c.class_region / 4096 = drawn_below (c.class_region / 4096) word (pages_some c.class_region valid.region_least) (next_below (stream_of seed arena class)) in
    shape_fits c arena class (gap_of c word) valid lt below (gap_whole (n + 1)) (gap_least n) (gap_most n (c.class_region / 4096) c.class_region less (pages_within c.class_region))
