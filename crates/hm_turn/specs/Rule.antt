-- The rule of a lock's table, which holds between any two steps. Word 0 is the next number to draw, word 1 the number
-- whose turn it is, word 2 the number of entries, and the one slot has the value. Spent views are excepted.
use Rattle.std.specs.Prelude.{◌≡◌, ◌≢◌, ◌≤◌, ◌<◌, ◌+◌, ℕ, true, false, ◌⊎◌, List, [], ◌∷◌, length, Option, None, Some}
use Rattle.std.specs.Option.{option_len}
use mathlib.Core.Option.{some, none}
use lib.ListN.{get_elem?}
use Rattle.atomic_table.specs.Table.{State}
use Rattle.hm_model.specs.declared.entry.Entry.{Entry}
use Rattle.hm_model.specs.Entries.{calls_of}
use Rattle.hm_turn.specs.declared.view.View.{View}
use Rattle.hm_turn.specs.Histories.{StartsWith}
use Rattle.hm_turn.specs.Callers.{is_among, AreDistinct, ended_of}

-- the j-th seat has this view
abbrev pub At : List View → ℕ → View → Type 0
At views j v = get_elem? views j ≡ some v

-- what a seat knows is a beginning of the history, with all entries of its own caller
pub record Fits (origin : List ℕ) (history : List Entry) (v : View) : Type 0 where
  pub origin_is : v.origin ≡ origin
  pub begins : StartsWith history v.seen
  pub own_seen : calls_of v.seen v.caller ≡ v.mine
  pub own_all : calls_of history v.caller ≡ v.mine

-- the live seats are the chief's, whose caller is 0, and one for each caller that is out
pub record AreSeated (root : ℕ) (chief : View) (outs : List ℕ) (views : List View) : Type 0 where
  pub at_root : At views root chief
  pub root_live : chief.spent ≡ false
  pub root_zero : chief.caller ≡ 0
  pub counted : chief.out ≡ length outs
  pub distinct : AreDistinct outs
  pub apart : (j k : ℕ) (v w : View) → At views j v → At views k w → v.spent ≡ false → w.spent ≡ false
      → v.caller ≡ w.caller → j ≡ k
  pub live : (j : ℕ) (v : View) → At views j v → v.spent ≡ false → (v.caller ≡ 0) ⊎ (is_among v.caller outs ≡ true)
  pub present : (c : ℕ) → is_among c outs ≡ true
      → (j : ℕ) × (v : View) × At views j v × (v.spent ≡ false) × (v.caller ≡ c)

-- the callers that are out are the used ones that are not ended; what the history has of an ended caller is what was
-- joined, the chief has seen it, and there is nothing of a caller never split off
pub record AreCounted (chief : View) (outs : List ℕ) (history : List Entry) (views : List View) : Type 0 where
  pub gone : (j : ℕ) (v : View) → At views j v → v.spent ≡ false → ended_of v.caller chief.ended ≡ None
  pub out_used : (c : ℕ) → is_among c outs ≡ true → is_among c chief.used ≡ true
  pub used_are : (c : ℕ) → is_among c chief.used ≡ true
      → (is_among c outs ≡ true) ⊎ ((calls : List Entry) × (ended_of c chief.ended ≡ Some calls))
  pub ended_used : (c : ℕ) (calls : List Entry) → ended_of c chief.ended ≡ Some calls → is_among c chief.used ≡ true
  pub ended_are : (c : ℕ) (calls : List Entry) → ended_of c chief.ended ≡ Some calls
      → (calls_of chief.seen c ≡ calls) × (calls_of history c ≡ calls)
  pub strangers : (c : ℕ) → c ≢ 0 → is_among c chief.used ≡ false → calls_of history c ≡ []

-- there is a chief, and there are callers that are out
pub record AreKnown (history : List Entry) (views : List View) : Type 0 where
  pub root : ℕ
  pub chief : View
  pub outs : List ℕ
  pub seats : AreSeated root chief outs views
  pub calls : AreCounted chief outs history views

-- how many views have a ticket
abbrev pub tickets_out : List View → ℕ
tickets_out [] = 0
tickets_out (v ∷ vs) = option_len v.ticket + tickets_out vs

-- the tickets drawn and not yet served are the different tickets of the views, and no number noted is above that served
pub record AreQueued (ticket serving : ℕ) (views : List View) : Type 0 where
  pub in_order : serving ≤ ticket
  pub many : serving + tickets_out views ≡ ticket
  pub between : (j : ℕ) (v : View) (t : ℕ) → At views j v → v.ticket ≡ Some t → (serving ≤ t) × (t < ticket)
  pub differ : (j k : ℕ) (v w : View) (t : ℕ) → At views j v → At views k w
      → v.ticket ≡ Some t → w.ticket ≡ Some t → j ≡ k
  pub noted : (j : ℕ) (v : View) (n : ℕ) → At views j v → v.note ≡ Some n → n ≤ serving

module _ {T : Type 0} (entries : T → List Entry) (origin_of : T → List ℕ) where
  abbrev pub Table : Type 0
  Table = State (Option T) View

  -- the value is at home: the history is its entries, and no seat holds the turn
  pub record IsHome (origin : List ℕ) (history : List Entry) (s : Table) : Type 0 where
    pub value : T
    pub homes : s.homes ≡ some (Some value) ∷ []
    pub entries_are : entries value ≡ history
    pub origin_is : origin_of value ≡ origin
    pub none_holds : (j : ℕ) (v : View) → At s.views j v → v.holds ≡ false

  -- the value is out: one seat holds the turn, its ticket is served, and the history is what it has seen
  pub record IsOut (serving : ℕ) (history : List Entry) (s : Table) : Type 0 where
    pub holder : ℕ
    pub view : View
    pub homes : s.homes ≡ none ∷ []
    pub at_holder : At s.views holder view
    pub holds : view.holds ≡ true
    pub served : view.ticket ≡ Some serving
    pub holder_live : view.spent ≡ false
    pub knows : view.seen ≡ history
    pub only : (j : ℕ) (v : View) → At s.views j v → v.holds ≡ true → j ≡ holder

  -- there is a history: the value is at home or out, each seat knows a beginning of it, and the callers are known;
  -- the tickets not yet served are the seats'
  pub record Orderly (origin : List ℕ) (s : Table) : Type 0 where
    pub history : List Entry
    pub ticket : ℕ
    pub serving : ℕ
    pub words : s.words ≡ ticket ∷ serving ∷ length history ∷ []
    pub queue : AreQueued ticket serving s.views
    pub home_or_out : IsHome origin history s ⊎ IsOut serving history s
    pub each : (j : ℕ) (v : View) → At s.views j v → v.spent ≡ false → Fits origin history v
    pub callers : AreKnown history s.views
