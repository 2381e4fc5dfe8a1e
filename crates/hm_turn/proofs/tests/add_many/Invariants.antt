use Rattle.std.proofs.Common.{◌≡◌, ◌≤◌}
use Rattle.hm_turn.specs.Known.{IsOf}
use Rattle.hm_turn.proofs.tests.add_many.Given as goal

abbrev pub invariant-loop-step : goal.invariant-loop-step
invariant-loop-step g l = record { of_lock : IsOf l.lock l.turn; same_caller : l.turn.knows.caller ≡ l.fn.turn.knows.caller; few : l.done ≤ l.step }
