use Rattle.std.proofs.Common.{rules}
use Rattle.hm_turn.proofs.Keeps.{draws_seat}
use Rattle.hm_turn.proofs.lock.TurnLock.draw_this.Goals as goal

pub compare_exchange-requires : goal.compare_exchange-requires
compare_exchange-requires g c = (search rules, search rules, draws_seat g.T.Kept.entries g.T.Kept.origin _ _ _ c.args.ticket c.args.seat.now.me c.requires.idle.holds)
