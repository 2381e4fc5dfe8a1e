use Rattle.std.proofs.Common.{◌≡◌, take, None}
use Rattle.hm_model.specs.Maps.{at}
use Rattle.hm_large_book.proofs.blocks.quarantined_at.Given as goal

abbrev pub invariant-loop-start : goal.invariant-loop-start
invariant-loop-start l = at l.addr (take l.start-index l.quarantined) ≡ None
