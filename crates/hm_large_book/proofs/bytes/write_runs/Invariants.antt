use Rattle.std.proofs.Common.{◌≡◌, ◌+◌, take, length}
use Rattle.hm_base.specs.Lists.{written}
use Rattle.hm_model.specs.Runs.{expand}
use Rattle.hm_large_book.proofs.bytes.write_runs.Given as goal

-- the runs so far were written over the bytes
pub record AreWritten (l : goal.Live-loop-byte) : Type 0 where
  pub at_is : l.at ≡ l.from + length (expand (take l.byte-index l.pairs))
  pub so_far : l.bytes ≡ written l.fn.bytes l.from (expand (take l.byte-index l.pairs))

abbrev pub invariant-loop-byte : goal.invariant-loop-byte
invariant-loop-byte l = AreWritten l
