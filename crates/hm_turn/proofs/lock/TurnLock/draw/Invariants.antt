use Rattle.std.proofs.Common.{◌≡◌}
use Rattle.hm_turn.specs.Sound.{Becomes}
use Rattle.hm_turn.proofs.lock.TurnLock.draw.Given as goal

abbrev pub invariant-loop : goal.invariant-loop
invariant-loop g l = Becomes l.fn.seat (λ me. me ≡ l.fn.seat.me) l.seat
