use Rattle.std.proofs.Common.{◌≡◌, ◌≤◌, length, take}
use Rattle.hm_model.specs.Maps.{without}
use Rattle.hm_class_book.proofs.book.count_without.Given as goal

abbrev pub invariant-loop-other : goal.invariant-loop-other
invariant-loop-other l = (l.count ≡ length (without l.number (take l.other-index l.numbers))) × (l.count ≤ l.other-index)
