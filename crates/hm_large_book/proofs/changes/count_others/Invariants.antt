use Rattle.std.proofs.Common.{◌≡◌, ◌≤◌, length, take}
use Rattle.hm_model.specs.Maps.{removed}
use Rattle.hm_large_book.proofs.changes.count_others.Given as goal

abbrev pub invariant-loop-start : goal.invariant-loop-start
invariant-loop-start l = (l.count ≡ length (removed l.addr (take l.start-index l.quarantined))) × (l.count ≤ l.start-index)
