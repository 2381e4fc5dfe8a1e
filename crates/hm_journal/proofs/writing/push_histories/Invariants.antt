use Rattle.std.proofs.Common.{◌≡◌, ◌++◌, drop, string_bytes}
use Rattle.hm_journal.specs.Journals.{histories_lines}
use Rattle.hm_journal.specs.Words.{lines_text}
use Rattle.hm_journal.proofs.writing.push_histories.Given as goal

abbrev pub invariant-loop-history : goal.invariant-loop-history
invariant-loop-history l =
    string_bytes l.out ++ lines_text (histories_lines (drop l.history-index l.histories))
    ≡ string_bytes l.fn.out ++ lines_text (histories_lines l.histories)
