use Rattle.std.proofs.Common.{◌≡◌, ◌+◌, ◌++◌, drop}
use Rattle.hm_run.specs.Endings.{notes_in}
use Rattle.hm_run.proofs.notes.copied.Given as goal

abbrev pub invariant-loop-index : goal.invariant-loop-index
invariant-loop-index l = l.all.items ++ notes_in (l.index + 1) (drop l.index l.rounds) ≡ notes_in 1 l.rounds
