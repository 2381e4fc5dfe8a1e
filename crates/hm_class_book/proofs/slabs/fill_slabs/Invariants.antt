use Rattle.std.proofs.Common.{◌≡◌, length, take, drop, replicate}
use Rattle.hm_class_rules.specs.Bytes.{overlaid_slabs}
use Rattle.hm_class_book.specs.Book.{slabs_in}
use Rattle.hm_class_book.proofs.slabs.fill_slabs.Given as goal

-- the slabs so far were written over, and the others are as they were
pub record AreFilled (l : goal.Live-loop-entry) : Type 0 where
  pub front : slabs_in (take l.entry-index l.opens) ≡ overlaid_slabs l.shape l.addr (replicate l.len l.byte) (slabs_in (take l.entry-index l.initial.opens))
  pub rest : drop l.entry-index l.opens ≡ drop l.entry-index l.initial.opens
  pub len : length l.opens ≡ length l.initial.opens

abbrev pub invariant-loop-entry : goal.invariant-loop-entry
invariant-loop-entry l = AreFilled l
