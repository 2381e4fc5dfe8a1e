use Rattle.std.proofs.Common.{◌≡◌, ◌+◌, ◌++◌, drop, string_bytes}
use Rattle.hm_report.specs.Totals.{total_lines}
use Rattle.hm_report.proofs.totals.write_totals.Given as goal

abbrev pub invariant-loop-i : goal.invariant-loop-i
invariant-loop-i l = string_bytes l.out ++ total_lines (l.i + 1) (drop l.i l.totals) ≡ total_lines 1 l.totals
