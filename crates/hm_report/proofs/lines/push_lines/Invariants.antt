use Rattle.std.proofs.Common.{◌≡◌, ◌+◌, ◌++◌, drop, string_bytes}
use Rattle.hm_report.specs.Text.{lines_text}
use Rattle.hm_report.proofs.lines.push_lines.Given as goal

abbrev pub invariant-loop-i : goal.invariant-loop-i
invariant-loop-i l =
    string_bytes l.out ++ lines_text l.round l.thread (l.i + 1) (drop l.i l.steps)
    ≡ string_bytes l.fn.out ++ lines_text l.round l.thread 1 l.steps
