use Rattle.std.proofs.Common.{◌≡◌, None, take}
use Rattle.hm_model.specs.Maps.{at}
use Rattle.hm_class_book.specs.Book.{slabs_in}
use Rattle.hm_class_book.proofs.bytes.find_slab.Given as goal

abbrev pub invariant-loop-number : goal.invariant-loop-number
invariant-loop-number l = at l.slab (slabs_in (take l.number-index l.opens)) ≡ None
