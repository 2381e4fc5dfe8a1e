-- One part of a call of a heap: a call of the region at one index, under its turn.
use Rattle.std.specs.Prelude.{◌≡◌, ◌<◌, ℕ, length, slice_index_or, slice_set, Option, Result}
use Rattle.hm_base.specs.declared.memory.NoMemory.{NoMemory}
use Rattle.hm_model.specs.declared.entry.Call.{Call}
use Rattle.hm_model.specs.declared.entry.Reply.{Reply}
use Rattle.hm_model.specs.declared.entry.Who.{Who}
use Rattle.hm_turn.specs.Known.{Known}
use Rattle.hm_heap.specs.Called.{Called, Tried}
use Rattle.hm_heap.specs.Passes.{PassView}

-- who makes this part of a step
abbrev pub who_of : PassView → ℕ → ℕ → Who
who_of p step part = record { caller = p.caller; round = p.round; thread = p.thread; step = step; part = part }

-- the turn at this index made the call; every other turn is as before
pub record HasPart (p q : PassView) (index : ℕ) (who : Who) (call : Call)
    (result : Result Reply NoMemory) : Type 0 where
  pub inside : index < length p.turns
  pub turn : Known
  pub turns_are : q.turns ≡ slice_set p.turns index turn
  pub called : (t : Known) → (turn.lock ≡ (slice_index_or p.turns index t).lock)
      × Called who call result (slice_index_or p.turns index t).knows turn.knows

-- the same, where the turn may not have been free
pub record HasTried (p q : PassView) (index : ℕ) (who : Who) (call : Call)
    (made : Option (Result Reply NoMemory)) : Type 0 where
  pub inside : index < length p.turns
  pub turn : Known
  pub turns_are : q.turns ≡ slice_set p.turns index turn
  pub tried : (t : Known) → (turn.lock ≡ (slice_index_or p.turns index t).lock)
      × Tried who call made (slice_index_or p.turns index t).knows turn.knows
