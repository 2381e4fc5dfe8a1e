use Rattle.std.proofs.Common.{rules}
use Rattle.hm_turn.proofs.Keeps.{observes_seat}
use Rattle.hm_turn.proofs.lock.TurnLock.observe.Goals as goal

pub load-requires : goal.load-requires
load-requires g c = (search rules, search rules, observes_seat g.T.Kept.entries g.T.Kept.origin _ _ _ c.args.seat.now.me c.requires.idle.holds)
