use Rattle.std.proofs.Common.{rules}
use Rattle.hm_turn.proofs.Keeps.{awaits_seat}
use Rattle.hm_turn.proofs.lock.TurnLock.is_served.Goals as goal

pub load-requires : goal.load-requires
load-requires g c = (search rules, search rules, awaits_seat g.T.Kept.entries g.T.Kept.origin _ _ _ c.args.ticket c.args.seat.now.me c.requires.waits.holds)
