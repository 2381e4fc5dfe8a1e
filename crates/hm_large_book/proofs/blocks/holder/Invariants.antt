use Rattle.std.proofs.Common.{◌≡◌, take, false}
use Rattle.std.specs.List.{list_any}
use Rattle.hm_large_book.specs.Book.{reaches}
use Rattle.hm_large_book.proofs.blocks.holder.Given as goal

abbrev pub invariant-loop-index : goal.invariant-loop-index
invariant-loop-index l = list_any (reaches l.addr) (take l.index l.live) ≡ false
