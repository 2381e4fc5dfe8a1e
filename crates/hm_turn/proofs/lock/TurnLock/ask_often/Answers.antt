use Rattle.std.proofs.Common.{refl, le_refl}
use Rattle.hm_turn.specs.declared.view.View.{View}
use Rattle.hm_turn.proofs.lock.TurnLock.ask_often.Goals as goal

pub loop-init : goal.loop-init
loop-init g c = let v : View = c.args.seat.now.me.0 in record { table = refl; holds = record { note = v.note; lost = v.lost; more = le_refl v.lost; same = refl } }
