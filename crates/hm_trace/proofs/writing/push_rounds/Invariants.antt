use Rattle.std.proofs.Common.{◌≡◌, ◌++◌, drop}
use Rattle.hm_trace.specs.Spelling.{trace_lines, lines_text}
use Rattle.hm_trace.proofs.writing.push_rounds.Given as goal

abbrev pub invariant-loop-round : goal.invariant-loop-round
invariant-loop-round l =
    l.out.items ++ lines_text (trace_lines (drop l.round-index l.rounds))
    ≡ l.fn.out.items ++ lines_text (trace_lines l.rounds)
