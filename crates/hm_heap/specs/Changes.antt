-- What a turn and a pass know once they have looked at the changes that a region's entries make.
use Rattle.std.specs.Prelude.{false, None, ◌≡◌, ◌≤◌, ◌<◌, ℕ, length, drop, slice_index_or, slice_set, Result, IfOk}
use Rattle.hm_base.specs.declared.memory.NoMemory.{NoMemory}
use Rattle.hm_model.specs.Changes.{changes_of}
use Rattle.hm_model.specs.Entries.{calls_of}
use Rattle.hm_turn.specs.Histories.{StartsWith}
use Rattle.hm_turn.specs.Knowledge.{Knowledge}
use Rattle.hm_turn.specs.Callers.{is_among, ended_of}
use Rattle.hm_turn.specs.Known.{Known, KnowsCallers}
use Rattle.hm_heap.specs.declared.changes.Changes.{Changes}
use Rattle.hm_heap.specs.Passes.{PassView}

-- the turn has seen all entries, its own ones are as before, and the changes are those from one of them on
pub record Looked (from : ℕ) (before after : Knowledge) (result : Result Changes NoMemory) : Type 0 where
  pub same : after ≡ record before { seen = after.seen; lost = after.lost }
  pub lost : before.lost ≤ after.lost
  pub begins : StartsWith after.seen before.seen
  pub own : calls_of after.seen before.caller ≡ after.mine
  pub changes : IfOk result (λ c. (c.upto ≡ length after.seen) × (c.list.items ≡ changes_of (drop from after.seen)))

-- all callers that were split off are joined
abbrev pub HasJoined : Knowledge → Type 0
HasJoined k = (c : ℕ) → ended_of c k.ended ≡ None → is_among c k.used ≡ false

-- the turn at this index has looked; every other turn is as before
pub record HasLooked (p q : PassView) (index from : ℕ) (result : Result Changes NoMemory) : Type 0 where
  pub inside : index < length p.turns
  pub turn : Known
  pub turns_are : q.turns ≡ slice_set p.turns index turn
  pub looked : (t : Known) → (turn.lock ≡ (slice_index_or p.turns index t).lock)
      × Looked from (slice_index_or p.turns index t).knows turn.knows result
      × KnowsCallers turn.knows
      × (HasJoined (slice_index_or p.turns index t).knows → KnowsCallers (slice_index_or p.turns index t).knows
      → turn.knows.seen ≡ (slice_index_or p.turns index t).knows.seen)
