use Rattle.std.proofs.Common.{rules}
use Rattle.hm_turn.proofs.Keeps.{asks_seat}
use Rattle.hm_turn.proofs.lock.TurnLock.ask.Goals as goal

pub compare_exchange-requires : goal.compare_exchange-requires
compare_exchange-requires g c = (search rules, search rules, asks_seat g.T.Kept.entries g.T.Kept.origin _ _ _ c.args.number c.args.seat.now.me c.requires.noted.holds)
