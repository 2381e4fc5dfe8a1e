-- What turns, values in hand and the seats of running calls are made of.
use Rattle.std.specs.Prelude.{◌≡◌, ◌<◌, ◌≤◌, ◌+◌, ◌^◌, ℕ, true, false, List, [], ◌∷◌, length, Option, None, Some}
use Rattle.atomic_table.specs.Table.{Me}
use Rattle.atomic_table.specs.declared.shared.Seat.{Seat}
use Rattle.hm_model.specs.Entries.{calls_of}
use Rattle.hm_turn.specs.declared.view.View.{View}
use Rattle.hm_turn.specs.Callers.{is_among, AreDistinct}
use Rattle.hm_turn.specs.Known.{Lock}
use Rattle.hm_turn.specs.Views.{view_in}

-- the callers that were split off differ, and have numbers of 32 bits
pub record HasBooks (v : View) : Type 0 where
  pub distinct : AreDistinct v.used
  pub small : (c : ℕ) → is_among c v.used ≡ true → c < 2 ^ 32
  pub some_out : v.out ≤ length v.used

-- a turn: the one view in its badge, which rests with neither a ticket nor a note, with its caller and how many are out
pub record IsSound (views : List View) (caller out : ℕ) : Type 0 where
  pub one : views ≡ view_in views ∷ []
  pub caller_is : caller ≡ (view_in views).caller
  pub out_is : out ≡ (view_in views).out
  pub rests : (view_in views).holds ≡ false
  pub live : (view_in views).spent ≡ false
  pub no_ticket : (view_in views).ticket ≡ None
  pub no_note : (view_in views).note ≡ None
  pub books : HasBooks (view_in views)

-- a seat of the lock's table, of which this holds
pub record IsSeatOf {T : Type 0} (lock : Lock) (Holds : Me (Option T) View → Type 0)
    (seat : Seat (Option T) View) : Type 0 where
  pub table : seat.table_id ≡ lock.id
  pub holds : Holds seat.me

-- the seat is of the same table as before, and this holds of it now
pub record Becomes {T : Type 0} (before : Seat (Option T) View) (Holds : Me (Option T) View → Type 0)
    (after : Seat (Option T) View) : Type 0 where
  pub table : after.table_id ≡ before.table_id
  pub holds : Holds after.me

-- a seat that neither holds the turn nor waits for it
pub record IsIdle {T : Type 0} (me : Me (Option T) View) : Type 0 where
  pub empty : me.1 ≡ []
  pub rests : me.0.holds ≡ false
  pub live : me.0.spent ≡ false
  pub no_ticket : me.0.ticket ≡ None

-- a seat that may ask for the number that it has noted
pub record MayAsk {T : Type 0} (me : Me (Option T) View) (number : ℕ) : Type 0 where
  pub empty : me.1 ≡ []
  pub rests : me.0.holds ≡ false
  pub live : me.0.spent ≡ false
  pub no_ticket : me.0.ticket ≡ None
  pub note_is : me.0.note ≡ Some number

-- a seat that waits for its ticket
pub record IsWaiting {T : Type 0} (me : Me (Option T) View) (ticket : ℕ) : Type 0 where
  pub empty : me.1 ≡ []
  pub rests : me.0.holds ≡ false
  pub live : me.0.spent ≡ false
  pub ticket_is : me.0.ticket ≡ Some ticket

-- a seat as it was, but for its note, and that more of its steps may have been lost
pub record HasAsked {T : Type 0} (before after : Me (Option T) View) : Type 0 where
  pub note : Option ℕ
  pub lost : ℕ
  pub more : before.0.lost ≤ lost
  pub same : after ≡ (record before.0 { lost = lost; note = note }, before.1)

-- a value in hand: the seat holds the turn by its ticket, and the slot that it has taken is empty
pub record IsFirm {T : Type 0} (me : Me (Option T) View) (ticket caller out : ℕ) : Type 0 where
  pub empty : me.1 ≡ (0, None) ∷ []
  pub ticket_is : me.0.ticket ≡ Some ticket
  pub next_fits : ticket + 1 < 2 ^ 64
  pub caller_is : caller ≡ me.0.caller
  pub out_is : out ≡ me.0.out
  pub holds : me.0.holds ≡ true
  pub live : me.0.spent ≡ false
  pub own : me.0.mine ≡ calls_of me.0.seen me.0.caller
  pub books : HasBooks me.0
