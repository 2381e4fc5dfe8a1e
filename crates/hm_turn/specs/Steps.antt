-- What each step on a word tells its seat: `me` and `after` are the seat before and after, `found` the word found.
use Rattle.std.specs.Prelude.{◌≡◌, ◌≢◌, ◌<◌, ◌+◌, ◌^◌, ℕ, true, false, ◌⊎◌, List, [], ◌∷◌, ◌++◌, length, Option, Some}
use Rattle.atomic_table.specs.Table.{Me, Step}
use Rattle.hm_model.specs.declared.entry.Entry.{Entry}
use Rattle.hm_model.specs.Entries.{calls_of}
use Rattle.hm_turn.specs.declared.view.View.{View}
use Rattle.hm_turn.specs.Histories.{StartsWith}
use Rattle.hm_turn.specs.Known.{KnowsCallers}
use Rattle.hm_turn.specs.Sound.{HasAsked}
use Rattle.hm_turn.specs.Views.{knowledge, drawing, noting, finding, outrun, holding, knowing, resting}

-- the turn came to the seat with the view v, which has the value: its entries begin with those seen, and have of the
-- caller just its own
pub record Wins {T : Type 0} (entries : T → List Entry) (origin_of : T → List ℕ)
    (v : View) (after : Me (Option T) View) : Type 0 where
  pub value : T
  pub has : after.1 ≡ (0, Some value) ∷ []
  pub view_is : after.0 ≡ holding v (entries value)
  pub begins : StartsWith (entries value) v.seen
  pub own : calls_of (entries value) v.caller ≡ v.mine
  pub origin_is : origin_of value ≡ v.origin

-- after some asking the turn came to the seat, which drew this number, and it was not the last
pub record WinsLater {T : Type 0} (entries : T → List Entry) (origin_of : T → List ℕ)
    (before : Me (Option T) View) (number : ℕ) (after : Me (Option T) View) : Type 0 where
  pub asking : Me (Option T) View
  pub asked : HasAsked before asking
  pub won : Wins entries origin_of (drawing asking.0 number) after
  pub next_fits : number + 1 < 2 ^ 64

-- a ticket is drawn where it was the next, and else nothing is learnt
abbrev pub drawn : {T : Type 0} → Step (Option T) → Me (Option T) View → ℕ → Me (Option T) View → Type 0
drawn st me found after =
    (found ≡ st.first → after ≡ (drawing me.0 st.first, me.1))
    × (found ≢ st.first → after ≡ me)

-- a seat with a ticket reads the number served: the turn is got where it is the seat's own, and else the number is
-- noted
abbrev pub awaited : {T : Type 0} → (T → List Entry) → (T → List ℕ)
    → Step (Option T) → Me (Option T) View → ℕ → Me (Option T) View → Type 0
awaited entries origin_of st me found after =
    (me.0.ticket ≡ Some found → Wins entries origin_of me.0 after)
    × (me.0.ticket ≢ Some found → after ≡ (noting me.0 found, me.1))

-- a seat without a ticket reads the number served: it is noted, or no ticket is left
abbrev pub observed : {T : Type 0} → Step (Option T) → Me (Option T) View → ℕ → Me (Option T) View → Type 0
observed st me found after = after ≡ (finding me.0 found, me.1)

-- the number noted is asked for: where it was the next to draw the turn is got at once,
-- and else another had drawn it, and the seat was outrun
abbrev pub asked : {T : Type 0} → (T → List Entry) → (T → List ℕ)
    → Step (Option T) → Me (Option T) View → ℕ → Me (Option T) View → Type 0
asked entries origin_of st me found after =
    (found ≡ st.first → Wins entries origin_of (drawing me.0 st.first) after)
    × (found ≢ st.first → (st.first < found) × (after ≡ (outrun me.0, me.1)))

-- the count is read: it is the number of entries seen
abbrev pub counted : {T : Type 0} → Step (Option T) → Me (Option T) View → ℕ → Me (Option T) View → Type 0
counted st me found after = (found ≡ length me.0.seen) × (after ≡ me)

-- one entry is counted: the seat then knows the entries xs
abbrev pub added : {T : Type 0} → List Entry → Step (Option T) → Me (Option T) View → ℕ → Me (Option T) View → Type 0
added {T} xs st me found after = after ≡ (knowing me.0 xs, me.1)

-- the next number is served, and the slot given back
abbrev pub freed : {T : Type 0} → Step (Option T) → Me (Option T) View → ℕ → Me (Option T) View → Type 0
freed st me found after = after ≡ (resting me.0, [])

-- a word is read, by which the seat of caller 0 learns what it knows of the callers
abbrev pub informed : {T : Type 0} → Step (Option T) → Me (Option T) View → ℕ → Me (Option T) View → Type 0
informed st me found after = (after ≡ me) × KnowsCallers (knowledge me.0)

-- the seat holds the turn, and xs are the entries that it has seen, or those and one more by its caller
pub record IsGrown (v : View) (xs : List Entry) (len : ℕ) : Type 0 where
  pub live : v.spent ≡ false
  pub holds : v.holds ≡ true
  pub own : v.mine ≡ calls_of v.seen v.caller
  pub len_is : len ≡ length xs
  pub grown : (xs ≡ v.seen) ⊎ ((e : Entry) × (e.who.caller ≡ v.caller) × (xs ≡ v.seen ++ e ∷ []))
