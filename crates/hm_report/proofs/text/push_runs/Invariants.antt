use Rattle.std.proofs.Common.{◌≡◌, ◌++◌, drop, string_bytes}
use Rattle.hm_report.specs.Text.{runs_text}
use Rattle.hm_report.proofs.text.push_runs.Given as goal

abbrev pub invariant-loop-byte : goal.invariant-loop-byte
invariant-loop-byte l = string_bytes l.out ++ runs_text (drop l.byte-index l.runs) ≡ string_bytes l.fn.out ++ runs_text l.runs
