use Rattle.std.proofs.Common.{◌≡◌, ◌<◌, ◌^◌, drop}
use Rattle.hm_trace.specs.ReadNumbers.{hex_after}
use Rattle.hm_trace.proofs.numbers.hex_value_of.Given as goal

abbrev pub invariant-loop-c : goal.invariant-loop-c
invariant-loop-c l =
    record { small : l.value < 16 ^ l.c-index; rest : hex_after l.value (drop l.c-index l.word) ≡ hex_after 0 l.word }
