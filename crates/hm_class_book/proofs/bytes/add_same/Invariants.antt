use Rattle.std.proofs.Common.{◌≡◌, ◌++◌, replicate}
use Rattle.hm_class_book.proofs.bytes.add_same.Given as goal

abbrev pub invariant-loop : goal.invariant-loop
invariant-loop l = l.bytes.items ≡ l.fn.bytes.items ++ replicate l.counter l.byte
