use Rattle.std.proofs.Common.{◌≡◌, length, take, drop}
use Rattle.hm_class_rules.specs.Bytes.{overlaid_slabs}
use Rattle.hm_class_book.specs.Book.{slabs_in}
use Rattle.hm_class_book.proofs.slabs.write_slabs.Given as goal

-- the slabs so far were written over, and the others are as they were
pub record Written (l : goal.Live-loop-entry) : Type 0 where
  pub front : slabs_in (take l.entry-index l.opens) ≡ overlaid_slabs l.shape l.addr l.written (slabs_in (take l.entry-index l.initial.opens))
  pub rest : drop l.entry-index l.opens ≡ drop l.entry-index l.initial.opens
  pub len : length l.opens ≡ length l.initial.opens

abbrev pub invariant-loop-entry : goal.invariant-loop-entry
invariant-loop-entry l = Written l
