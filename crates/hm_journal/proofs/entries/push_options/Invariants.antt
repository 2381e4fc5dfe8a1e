use Rattle.std.proofs.Common.{◌≡◌, ◌++◌, drop, map, string_bytes}
use Rattle.hm_journal.specs.Words.{option_word, spaced}
use Rattle.hm_journal.proofs.entries.push_options.Given as goal

abbrev pub invariant-loop-option : goal.invariant-loop-option
invariant-loop-option l =
    string_bytes l.out ++ spaced (map option_word (drop l.option-index l.options))
    ≡ string_bytes l.fn.out ++ spaced (map option_word l.options)
