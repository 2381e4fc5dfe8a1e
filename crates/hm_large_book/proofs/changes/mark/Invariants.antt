use Rattle.std.proofs.Common.{◌≡◌, ◌++◌, map, take, drop}
use Rattle.hm_large_rules.specs.Steps.{mark}
use Rattle.hm_large_book.specs.Book.{blocks_in}
use Rattle.hm_large_book.proofs.changes.mark.Given as goal

abbrev pub invariant-loop-entry : goal.invariant-loop-entry
invariant-loop-entry l = blocks_in l.live ≡ map (mark l.addr) (take l.entry-index (blocks_in l.initial.live)) ++ drop l.entry-index (blocks_in l.initial.live)
