use Rattle.std.proofs.Common.{◌≡◌, drop}
use Rattle.hm_journal.specs.Reading.{value_after}
use Rattle.hm_journal.proofs.reading.number_in.Given as goal

abbrev pub invariant-loop-digit : goal.invariant-loop-digit
invariant-loop-digit l = value_after 0 l.word ≡ value_after l.value (drop l.digit-index l.word)
