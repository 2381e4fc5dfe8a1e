-- What a turn knows, and how each call changes it.
use Rattle.std.specs.Prelude.{ℕ, ◌+◌, ◌-◌, List, [], ◌∷◌}
use Rattle.hm_model.specs.declared.entry.Entry.{Entry}
use Rattle.hm_model.specs.Entries.{calls_of}
use Rattle.hm_turn.specs.Callers.{Ended}
use Rattle.hm_turn.specs.Histories.{longer}

-- the turn's caller, and the origin of the lock's value;
-- the entries seen, a beginning of the history, and the caller's own entries;
-- how many of its steps found a ticket drawn by another that was not served when the call loaded `serving`, or found
-- 2^64 - 1 tickets drawn;
-- the callers that it split off, how many of them are not joined, and those that are, with their entries
pub record Knowledge : Type 0 where
  pub caller : ℕ
  pub origin : List ℕ
  pub seen : List Entry
  pub mine : List Entry
  pub lost : ℕ
  pub used : List ℕ
  pub out : ℕ
  pub ended : Ended

-- of the first turn of a lock
abbrev pub founding : List ℕ → Knowledge
founding origin = record { caller = 0; origin = origin; seen = []; mine = []; lost = 0; used = []; out = 0; ended = [] }

-- it has seen these entries
abbrev pub with_seen : Knowledge → List Entry → Knowledge
with_seen k entries = record k { seen = entries }

-- it has given these entries, its own ones among them
abbrev pub with_given : Knowledge → List Entry → Knowledge
with_given k entries = record k { seen = entries; mine = calls_of entries k.caller }

-- one more of its steps found a ticket drawn by another that was not served, or found all tickets drawn
abbrev pub with_lost : Knowledge → Knowledge
with_lost k = record k { lost = k.lost + 1 }

-- it has split off a caller
abbrev pub with_split : Knowledge → ℕ → Knowledge
with_split k caller = record k { used = caller ∷ k.used; out = k.out + 1 }

-- of the caller that was split off
abbrev pub newcomer : Knowledge → ℕ → Knowledge
newcomer k caller = record {
  caller = caller;
  origin = k.origin;
  seen = k.seen;
  mine = [];
  lost = 0;
  used = [];
  out = 0;
  ended = [];
}

-- it has joined the other
abbrev pub with_joined : Knowledge → Knowledge → Knowledge
with_joined k other = record k {
  seen = longer k.seen other.seen;
  out = k.out - 1;
  ended = (other.caller, other.mine) ∷ k.ended;
}
