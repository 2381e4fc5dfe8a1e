use Rattle.std.proofs.Common.{◌≡◌, take, replicate}
use Rattle.hm_large_book.proofs.bytes.are_all.Given as goal

abbrev pub invariant-loop-other : goal.invariant-loop-other
invariant-loop-other l = take l.other-index l.bytes ≡ replicate l.other-index l.byte
