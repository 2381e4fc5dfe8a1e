use Rattle.std.proofs.Common.{◌≡◌, ℕ, Option}
use Rattle.atomic_table.specs.Table.{Me}
use Rattle.hm_turn.specs.Sound.{Becomes}
use Rattle.hm_turn.specs.declared.view.View.{View}
use Rattle.hm_turn.proofs.lock.TurnLock.wait_for.Given as goal

-- a seat as it was, but for its note
pub record HasWaited {T : Type 0} (before after : Me (Option T) View) : Type 0 where
  pub note : Option ℕ
  pub same : after ≡ (record before.0 { note = note }, before.1)

abbrev pub invariant-loop : goal.invariant-loop
invariant-loop g l = Becomes l.fn.seat (HasWaited l.fn.seat.me) l.seat
