-- Drawn choices of a region, step by step over lists that each entry changes.
use Rattle.std.specs.Prelude.{◌≡◌, ℕ, if◌then◌else◌, List, [], ◌∷◌, replicate, slice_index_or, slice_set, Option, Some, None, ⊤}
use Rattle.hm_choice.specs.Stream.{Words, after_word}
use Rattle.hm_quarantine.specs.Quarantine.{Kept, nothing_kept, let_go, kept_with}
use Rattle.hm_model.specs.Machine.{state_after, Legal}
use Rattle.hm_model.specs.Maps.{without}
use Rattle.hm_model.specs.declared.entry.Entry.{Entry}
use Rattle.hm_sizes.specs.Shapes.{slab_of}
use Rattle.hm_sizes.specs.declared.shape.Shape.{Shape}
use Rattle.hm_class_rules.specs.State.{State, start}
use Rattle.hm_class_rules.specs.Steps.{step}
use Rattle.hm_class_rules.specs.Rules.{Terms}
use Rattle.hm_class_rules.specs.Draws.{stream_of, drawn_shape, words_from, after_words, words_of, Event, Picked, Returned, Undrawn, event, word_count, array_index, parking_index}
use Rattle.hm_class_rules.specs.Kinds.{Kind, Partial, Empty, kind, same_kind}
use Rattle.hm_class_rules.specs.Drawn.{IsPicked, unparked_by}

-- what a region keeps: its state, its stream, the partial and the empty slabs, each list with its front first, the array
-- and the ring of the quarantine, and the parking array
pub record Cells : Type 0 where
  pub state : State
  pub stream : Words
  pub partial : List ℕ
  pub empty : List ℕ
  pub quarantine : Kept
  pub parking : List (Option ℕ)

-- at first; one word is taken, for the gap
abbrev pub first_cells : ℕ → ℕ → Terms → Cells
first_cells seed arena t = record {
  state = start;
  stream = after_word (stream_of seed arena t.shape.class);
  partial = [];
  empty = [];
  quarantine = nothing_kept t.shape.array t.shape.ring;
  parking = replicate t.config.park_length None;
}

-- ---- the lists of slabs
-- the one slab whose kind an entry can change
abbrev pub touched : Shape → Option ℕ → Event → ℕ
touched p released (Picked a) = slab_of p a
touched p None (Returned a) = slab_of p a
touched p (Some b) (Returned a) = slab_of p b
touched p released Undrawn = 0

-- the list of the slabs of a kind, where slab n was `before` and is `after`: a slab that becomes so goes to its front, one
-- that stays so keeps its place, and one that is so no more leaves
abbrev pub listed : Kind → ℕ → Kind → Kind → List ℕ → List ℕ
listed wanted n before after list =
    if same_kind after before then list else if same_kind after wanted then n ∷ list
    else if same_kind before wanted then without n list else list

-- ---- the quarantine and the parking array
abbrev pub quarantine_with : Shape → Entry → Event → Kept → Kept
quarantine_with p e (Returned a) kept = kept_with kept a (array_index p e.draws)
quarantine_with p e event kept = kept

abbrev pub parking_with : ℕ → Option ℕ → List (Option ℕ) → List (Option ℕ)
parking_with index None parking = parking
parking_with index (Some n) parking = slice_set parking index (Some n)

abbrev pub parking_after : Terms → Entry → Event → List (Option ℕ) → List (Option ℕ)
parking_after t e (Returned a) parking = parking_with (parking_index t e.draws) e.choices.retired parking
parking_after t e event parking = parking

-- ---- an entry
abbrev pub next : Terms → Cells → Entry → Cells
next t c e =
    let n = touched t.shape e.choices.released (event e) in
    let after = step t.shape c.state e in
    record {
      state = after;
      stream = after_words c.stream e.draws.used;
      partial = listed Partial n (kind t.shape c.state n) (kind t.shape after n) c.partial;
      empty = listed Empty n (kind t.shape c.state n) (kind t.shape after n) c.empty;
      quarantine = quarantine_with t.shape e (event e) c.quarantine;
      parking = parking_after t e (event e) c.parking;
    }

-- the open slab from which the next place is picked: the front of the partial list; where that is empty, that of the empty list
abbrev pub front : List ℕ → List ℕ → Option ℕ
front [] [] = None
front [] (n ∷ empty) = Some n
front (n ∷ partial) empty = Some n

pub record IsSteppedPicking (t : Terms) (c : Cells) (e : Entry) (a : ℕ) : Type 0 where
  pub picked : IsPicked t c.state e a
  pub source : e.choices.opened ≡ None → front c.partial c.empty ≡ Some (slab_of t.shape a)

pub record IsSteppedFree (t : Terms) (c : Cells) (e : Entry) (a : ℕ) : Type 0 where
  pub released : e.choices.released ≡ let_go c.quarantine a (array_index t.shape e.draws)
  pub unparked : e.choices.unparked
      ≡ unparked_by e.choices.retired (slice_index_or c.parking (parking_index t e.draws) None)

abbrev pub IsSteppedEvent : Terms → Cells → Entry → Event → Type 0
IsSteppedEvent t c e (Picked a) = IsSteppedPicking t c e a
IsSteppedEvent t c e (Returned a) = IsSteppedFree t c e a
IsSteppedEvent t c e Undrawn = ⊤

-- the entry holds the next words of the stream, as many as its call draws, and its choices are those of the lists and the words
pub record IsSteppedEntry (t : Terms) (c : Cells) (e : Entry) : Type 0 where
  pub count : e.draws.used ≡ word_count t e.choices (event e)
  pub words : words_of e.draws ≡ words_from c.stream e.draws.used
  pub choices : IsSteppedEvent t c e (event e)

-- ---- a history
abbrev pub cells : ℕ → ℕ → Terms → List Entry → Cells
cells seed arena t es = state_after (next t) (IsSteppedEntry t) (first_cells seed arena t) es

pub record IsStepped (seed arena : ℕ) (t : Terms) (es : List Entry) : Type 0 where
  pub shape : t.shape ≡ drawn_shape seed t.config arena t.shape.class
  pub entries : Legal (next t) (IsSteppedEntry t) (first_cells seed arena t) es
