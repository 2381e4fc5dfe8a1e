-- Drawn choices of a region, by looking back through its entries.
use Rattle.std.specs.Prelude.{◌≡◌, ℕ, ◌-◌, ◌==◌, if◌then◌else◌, List, [], ◌∷◌, ◌++◌, length, find, Option, Some, None, IfSome, option_map, ⊤}
use Rattle.std.specs.List.{range_with_len}
use Rattle.hm_choice.specs.Stream.{after_word, canary_of}
use Rattle.hm_quarantine.specs.LookingBack.{Free, released}
use Rattle.hm_model.specs.declared.entry.Entry.{Entry}
use Rattle.hm_model.specs.declared.entry.Draws.{Draws}
use Rattle.hm_sizes.specs.Shapes.{place, slab_of}
use Rattle.hm_sizes.specs.declared.shape.Shape.{Shape}
use Rattle.hm_class_rules.specs.State.{State, start, is_free}
use Rattle.hm_class_rules.specs.Steps.{opened, step}
use Rattle.hm_class_rules.specs.Rules.{Terms}
use Rattle.hm_class_rules.specs.Draws.{stream_of, drawn_shape, words_from, all_words, Event, Picked, Returned, Undrawn, event, word_count, start_slot, array_index, parking_index}
use Rattle.hm_class_rules.specs.Kinds.{Kind, kind, IsSource}

-- ---- a picking
-- the first available place of slab n from slot i on, cyclically
abbrev pub first_free : Shape → State → ℕ → ℕ → Option ℕ
first_free p s n i = option_map (place p n) (find (is_free p s n) (range_with_len i (p.slots - i) ++ range_with_len 0 i))

-- in state s, the canary is that of the first two words, and a is the first available place from the start slot
pub record IsPicked (t : Terms) (s : State) (e : Entry) (a : ℕ) : Type 0 where
  pub canary : IfSome e.choices.canary (λ k. k ≡ canary_of e.draws.w0 e.draws.w1)
  pub place : first_free t.shape (opened t.shape e.choices.opened e.choices.canary s) (slab_of t.shape a)
      (start_slot t e.choices e.draws) ≡ Some a

-- ---- the past is the list of the entries so far, the latest first
abbrev pub state_after_past : Terms → List Entry → State
state_after_past t [] = start
state_after_past t (e ∷ past) = step t.shape (state_after_past t past) e

-- the kinds of all slabs after each entry
abbrev pub kinds_after : Terms → List Entry → List (ℕ → Kind)
kinds_after t [] = []
kinds_after t (e ∷ past) = kind t.shape (state_after_past t (e ∷ past)) ∷ kinds_after t past

-- the accepted frees, each with its index in the array
abbrev pub free_at : Shape → Draws → ℕ → Free
free_at p d a = record { slot = a; index = array_index p d }

abbrev pub with_free : Shape → Draws → Event → List Free → List Free
with_free p d (Returned a) frees = free_at p d a ∷ frees
with_free p d event frees = frees

abbrev pub frees_of : Terms → List Entry → List Free
frees_of t [] = []
frees_of t (e ∷ past) = with_free t.shape e.draws (event e) (frees_of t past)

-- the retirements, each with its parking index
pub record Retirement : Type 0 where
  pub slab : ℕ
  pub index : ℕ

abbrev pub with_retired : ℕ → Option ℕ → List Retirement → List Retirement
with_retired index None retirements = retirements
with_retired index (Some n) retirements = record { slab = n; index = index } ∷ retirements

abbrev pub with_retirement : Terms → Entry → Event → List Retirement → List Retirement
with_retirement t e (Returned a) retirements = with_retired (parking_index t e.draws) e.choices.retired retirements
with_retirement t e event retirements = retirements

abbrev pub retirements_of : Terms → List Entry → List Retirement
retirements_of t [] = []
retirements_of t (e ∷ past) = with_retirement t e (event e) (retirements_of t past)

-- the slab of the latest retirement to this parking index
abbrev pub latest_parked : ℕ → List Retirement → Option ℕ
latest_parked index [] = None
latest_parked index (retirement ∷ past) =
    if retirement.index == index then Some retirement.slab else latest_parked index past

-- a slab is unparked only where one is retired
abbrev pub unparked_by : Option ℕ → Option ℕ → Option ℕ
unparked_by None stood = None
unparked_by (Some n) stood = stood

-- ---- an entry after its past
pub record IsDrawnPicking (t : Terms) (past : List Entry) (e : Entry) (a : ℕ) : Type 0 where
  pub picked : IsPicked t (state_after_past t past) e a
  pub source : e.choices.opened ≡ None → IsSource (kinds_after t past) (slab_of t.shape a)

pub record IsDrawnFree (t : Terms) (past : List Entry) (e : Entry) (a : ℕ) : Type 0 where
  pub released : e.choices.released ≡ released t.shape.array t.shape.ring (frees_of t past) (free_at t.shape e.draws a)
  pub unparked : e.choices.unparked
      ≡ unparked_by e.choices.retired (latest_parked (parking_index t e.draws) (retirements_of t past))

abbrev pub IsDrawnEvent : Terms → List Entry → Entry → Event → Type 0
IsDrawnEvent t past e (Picked a) = IsDrawnPicking t past e a
IsDrawnEvent t past e (Returned a) = IsDrawnFree t past e a
IsDrawnEvent t past e Undrawn = ⊤

pub record IsDrawnEntry (t : Terms) (past : List Entry) (e : Entry) : Type 0 where
  pub words : e.draws.used ≡ word_count t e.choices (event e)
  pub choices : IsDrawnEvent t past e (event e)

abbrev pub AreDrawn : Terms → List Entry → List Entry → Type 0
AreDrawn t past [] = ⊤
AreDrawn t past (e ∷ es) = IsDrawnEntry t past e × AreDrawn t (e ∷ past) es

-- ---- a history: its region begins where the first word says, its words are the next ones of the stream, and its choices
-- are those of the words
pub record IsDrawn (seed arena : ℕ) (t : Terms) (es : List Entry) : Type 0 where
  pub shape : t.shape ≡ drawn_shape seed t.config arena t.shape.class
  pub words : all_words es ≡ words_from (after_word (stream_of seed arena t.shape.class)) (length (all_words es))
  pub choices : AreDrawn t [] es
