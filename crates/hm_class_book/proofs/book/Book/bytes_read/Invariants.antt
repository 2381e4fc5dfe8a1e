use Rattle.std.proofs.Common.{◌≡◌, ◌≤◌, ◌-◌}
use Rattle.hm_class_rules.specs.Bytes.{bytes_read}
use Rattle.hm_class_book.specs.Book.{state_in}
use Rattle.hm_class_book.proofs.book.Book.bytes_read.Given as goal

abbrev pub invariant-loop-at : goal.invariant-loop-at
invariant-loop-at l = record {
  later : l.addr ≤ l.at;
  within : l.at ≤ l.end;
  read : l.bytes.items ≡ bytes_read l.shape (state_in l.self) l.addr (l.at - l.addr);
}

abbrev pub decreases-loop-at : goal.decreases-loop-at
decreases-loop-at l = l.end - l.at
