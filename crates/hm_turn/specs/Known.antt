-- What contracts see of a lock, of a turn and of a value in hand, and what they say of them.
use Rattle.std.specs.Prelude.{◌≡◌, ◌≢◌, ◌≤◌, ◌⊎◌, ℕ, false, List, [], ◌∷◌, ◌++◌, None, Some}
use Rattle.atomic_table.specs.Seated.{TableId}
use Rattle.hm_model.specs.declared.entry.Entry.{Entry}
use Rattle.hm_model.specs.Entries.{calls_of}
use Rattle.hm_turn.specs.Histories.{StartsWith}
use Rattle.hm_turn.specs.Callers.{is_among, ended_of}
use Rattle.hm_turn.specs.Knowledge.{Knowledge}

-- which lock it is, and the origin of its value
pub record Lock : Type 0 where
  pub id : TableId
  pub origin : List ℕ

-- which lock the turn is of, and what it knows
pub record Known : Type 0 where
  pub lock : TableId
  pub knows : Knowledge

-- a value in the hand of a turn
pub record InHand (T : Type 0) : Type 0 where
  pub lock : TableId
  pub knows : Knowledge
  pub value : T

-- the same hand, with another value
abbrev pub with_value : {T : Type 0} → InHand T → T → InHand T
with_value held value = record { lock = held.lock; knows = held.knows; value = value }

-- the turn is of this lock
abbrev pub IsOf : Lock → Known → Type 0
IsOf lock turn = (turn.lock ≡ lock.id) × (turn.knows.origin ≡ lock.origin)

module _ {T : Type 0} (entries : T → List Entry) (origin : T → List ℕ) where
  -- the value's entries begin with all that the turn had seen, and have of its caller just its own;
  -- the origin is the lock's; the hand has seen all entries
  pub record IsTaken (lock : Lock) (turn : Known) (held : InHand T) : Type 0 where
    pub lock_is : held.lock ≡ turn.lock
    pub begins : StartsWith (entries held.value) turn.knows.seen
    pub own : calls_of (entries held.value) turn.knows.caller ≡ turn.knows.mine
    pub origin_is : origin held.value ≡ lock.origin
    pub seen : held.knows.seen ≡ entries held.value

  -- the hand is of this lock, and the value has the lock's origin;
  -- the entries are those that were taken, or those and one more by this caller
  pub record MayGive (lock : Lock) (held : InHand T) : Type 0 where
    pub same_lock : held.lock ≡ lock.id
    pub same_origin : held.knows.origin ≡ lock.origin
    pub origin_is : origin held.value ≡ lock.origin
    pub grown : (entries held.value ≡ held.knows.seen)
        ⊎ ((e : Entry) × (e.who.caller ≡ held.knows.caller) × (entries held.value ≡ held.knows.seen ++ e ∷ []))

-- its own entries are as before, or have grown by the entry that was given
pub record Gains (before after : Knowledge) : Type 0 where
  pub same : after.seen ≡ before.seen → after.mine ≡ before.mine
  pub more : (e : Entry) → after.seen ≡ before.seen ++ e ∷ [] → after.mine ≡ before.mine ++ e ∷ []

-- as before, but that more steps found tickets drawn by others that were not served, or found all tickets drawn
pub record HasLost (before after : Knowledge) : Type 0 where
  pub lost : ℕ
  pub more : before.lost ≤ lost
  pub same : after ≡ record before { lost = lost }

-- what was seen has of the turn's caller and of each joined one just its entries,
-- and none of a caller that was never split off
pub record KnowsCallers (k : Knowledge) : Type 0 where
  pub own : calls_of k.seen k.caller ≡ k.mine
  pub of_ended : (c : ℕ) (calls : List Entry) → ended_of c k.ended ≡ Some calls → calls_of k.seen c ≡ calls
  pub of_others : (c : ℕ) → c ≢ 0 → is_among c k.used ≡ false → calls_of k.seen c ≡ []

-- the history of a closed lock goes on from what the last turn had seen;
-- it has of caller 0 and of each joined caller just its entries, and none of others
pub record IsWhole (history : List Entry) (k : Knowledge) : Type 0 where
  pub begins : StartsWith history k.seen
  pub own : calls_of history 0 ≡ k.mine
  pub of_ended : (c : ℕ) (calls : List Entry) → ended_of c k.ended ≡ Some calls → calls_of history c ≡ calls
  pub of_others : (c : ℕ) → c ≢ 0 → ended_of c k.ended ≡ None → calls_of history c ≡ []
