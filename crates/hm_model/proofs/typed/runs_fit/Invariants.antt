use Rattle.std.specs.List.{AllWithin}
use Rattle.hm_model.specs.Typed.{RunFits}
use Rattle.hm_model.proofs.typed.runs_fit.Given as goal

abbrev pub invariant-loop-byte : goal.invariant-loop-byte
invariant-loop-byte l = AllWithin RunFits l.runs 0 l.byte-index
