use Rattle.std.proofs.Common.{refl}
use Rattle.hm_turn.proofs.lock.TurnLock.wait_for.Goals as goal

pub loop-init : goal.loop-init
loop-init g c = record { table = refl; holds = record { note = c.args.seat.now.me.0.note; same = refl } }
