use Rattle.std.proofs.Common.{◌≡◌, ◌+◌, take, drop, length}
use Rattle.hm_model.specs.Runs.{expand}
use Rattle.hm_large_book.proofs.bytes.are_bytes.Given as goal

-- the bytes so far are those of the runs so far
pub record AreAlike (l : goal.Live-loop-byte) : Type 0 where
  pub at_is : l.at ≡ l.from + length (expand (take l.byte-index l.pairs))
  pub alike : take (length (expand (take l.byte-index l.pairs))) (drop l.from l.bytes) ≡ expand (take l.byte-index l.pairs)

abbrev pub invariant-loop-byte : goal.invariant-loop-byte
invariant-loop-byte l = AreAlike l
