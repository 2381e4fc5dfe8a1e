use Rattle.std.proofs.Common.{◌≡◌, ◌+◌, drop}
use Rattle.hm_report.specs.Text.{first_difference}
use Rattle.hm_report.proofs.text.first_difference.Given as goal

abbrev pub invariant-loop-i : goal.invariant-loop-i
invariant-loop-i l = l.i + first_difference (drop l.i l.kept) (drop l.i l.found) ≡ first_difference l.kept l.found
