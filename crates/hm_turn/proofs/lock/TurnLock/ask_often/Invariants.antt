use Rattle.hm_turn.specs.Sound.{Becomes, HasAsked}
use Rattle.hm_turn.proofs.lock.TurnLock.ask_often.Given as goal

abbrev pub invariant-loop : goal.invariant-loop
invariant-loop g l = Becomes l.fn.seat (HasAsked l.fn.seat.me) l.seat
