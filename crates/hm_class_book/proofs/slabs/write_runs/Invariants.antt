use Rattle.std.proofs.Common.{◌≡◌, ◌+◌, take, length}
use Rattle.hm_model.specs.Runs.{expand}
use Rattle.hm_class_rules.specs.Bytes.{overlaid_slabs}
use Rattle.hm_class_book.specs.Book.{slabs_in}
use Rattle.hm_class_book.proofs.slabs.write_runs.Given as goal

-- the runs so far were written over the slabs
pub record AreWritten (l : goal.Live-loop-byte) : Type 0 where
  pub at_is : l.at ≡ l.addr + length (expand (take l.byte-index l.pairs))
  pub so_far : slabs_in l.opens ≡ overlaid_slabs l.shape l.addr (expand (take l.byte-index l.pairs)) (slabs_in l.initial.opens)

abbrev pub invariant-loop-byte : goal.invariant-loop-byte
invariant-loop-byte l = AreWritten l
