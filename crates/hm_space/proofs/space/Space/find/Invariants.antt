use Rattle.hm_space.proofs.Fits.{AreLeft}
use Rattle.hm_space.proofs.space.Space.find.Given as goal

abbrev pub invariant-loop-range : goal.invariant-loop-range
invariant-loop-range l = AreLeft l.self l.len l.align l.front l.range-items l.range-index
