use Rattle.std.proofs.Common.{◌≡◌, ◌<◌, ◌≤◌, ◌-◌, ℕ, true, is_some}
use Rattle.hm_class_rules.specs.Bytes.{byte_at}
use Rattle.hm_class_book.specs.Book.{state_in}
use Rattle.hm_class_book.proofs.book.Book.first_trap.Given as goal

abbrev pub invariant-loop-at : goal.invariant-loop-at
invariant-loop-at l = record {
  later : l.addr ≤ l.at;
  within : l.at ≤ l.end;
  all : (k : ℕ) → l.addr ≤ k → k < l.at → is_some (byte_at l.shape (state_in l.self) k) ≡ true;
}

abbrev pub decreases-loop-at : goal.decreases-loop-at
decreases-loop-at l = l.end - l.at
