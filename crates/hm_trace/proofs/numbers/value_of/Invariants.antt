use Rattle.std.proofs.Common.{◌≡◌, drop}
use Rattle.hm_trace.specs.ReadNumbers.{value_after}
use Rattle.hm_trace.proofs.numbers.value_of.Given as goal

abbrev pub invariant-loop-c : goal.invariant-loop-c
invariant-loop-c l = value_after l.value (drop l.c-index l.word) ≡ value_after 0 l.word
