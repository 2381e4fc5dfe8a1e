-- Views of seats: what is known, the ticket and the note, whether the seat holds the turn, and whether it was joined
-- to another.
use Rattle.std.specs.Prelude.{ℕ, ◌+◌, ◌-◌, true, false, cond, List, [], ◌∷◌, None, Some}
use lib.Dec.{ltb}
use Rattle.hm_model.specs.declared.entry.Entry.{Entry}
use Rattle.hm_model.specs.Entries.{calls_of}
use Rattle.hm_turn.specs.declared.view.View.{View}
use Rattle.hm_turn.specs.Histories.{longer}
use Rattle.hm_turn.specs.Knowledge.{Knowledge}

-- what contracts see of a view
abbrev pub knowledge : View → Knowledge
knowledge v = record {
  caller = v.caller;
  origin = v.origin;
  seen = v.seen;
  mine = v.mine;
  lost = v.lost;
  used = v.used;
  out = v.out;
  ended = v.ended;
}

-- of the first seat
abbrev pub founder : List ℕ → View
founder origin = record {
  caller = 0;
  origin = origin;
  seen = [];
  mine = [];
  lost = 0;
  used = [];
  out = 0;
  ended = [];
  ticket = None;
  note = None;
  holds = false;
  spent = false;
}

-- the one view in a badge's list
abbrev pub view_in : List View → View
view_in [] = founder []
view_in (v ∷ vs) = v

-- it has drawn this ticket, and a note is used up
abbrev pub drawing : View → ℕ → View
drawing v ticket = record v { ticket = Some ticket; note = None }

-- it found this number served
abbrev pub noting : View → ℕ → View
noting v number = record v { note = Some number }

-- it found that another had drawn the number noted, or that no ticket is left
abbrev pub outrun : View → View
outrun v = record v { lost = v.lost + 1; note = None }

-- the number that is drawn by nobody: where it is served, no ticket is left
abbrev pub last_number : ℕ
last_number = 18446744073709551615

-- it found this number served, and notes it if it can be drawn
abbrev pub finding : View → ℕ → View
finding v number = cond (ltb number last_number) (noting v number) (outrun v)

-- it got the turn, and found these entries
abbrev pub holding : View → List Entry → View
holding v entries = record v { seen = entries; note = None; holds = true }

-- it knows these entries, and its own among them
abbrev pub knowing : View → List Entry → View
knowing v entries = record v { seen = entries; mine = calls_of entries v.caller }

-- it holds the turn no more, and has neither a ticket nor a note
abbrev pub resting : View → View
resting v = record v { ticket = None; note = None; holds = false }

-- it has split off a caller
abbrev pub splitting : View → ℕ → View
splitting v caller = record v { used = caller ∷ v.used; out = v.out + 1 }

-- of the caller that was split off
abbrev pub entering : View → ℕ → View
entering v caller = record {
  caller = caller;
  origin = v.origin;
  seen = v.seen;
  mine = [];
  lost = 0;
  used = [];
  out = 0;
  ended = [];
  ticket = None;
  note = None;
  holds = false;
  spent = false;
}

-- it has joined the other
abbrev pub joining : View → View → View
joining v other = record v {
  seen = longer v.seen other.seen;
  out = v.out - 1;
  ended = (other.caller, other.mine) ∷ v.ended;
}

-- what is left of the other
abbrev pub spent : View
spent = record (founder []) { spent = true }
