use Rattle.std.proofs.Common.{◌≡◌, ◌++◌, drop, map, string_bytes}
use Rattle.hm_journal.specs.Entries.{entry_words}
use Rattle.hm_journal.specs.Words.{lines_text}
use Rattle.hm_journal.proofs.writing.push_entries.Given as goal

abbrev pub invariant-loop-entry : goal.invariant-loop-entry
invariant-loop-entry l =
    string_bytes l.out ++ lines_text (map entry_words (drop l.entry-index l.entries))
    ≡ string_bytes l.fn.out ++ lines_text (map entry_words l.entries)
