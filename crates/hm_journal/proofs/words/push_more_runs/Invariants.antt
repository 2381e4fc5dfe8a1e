use Rattle.std.proofs.Common.{◌≡◌, ◌++◌, ◌∷◌, drop, string_bytes}
use Rattle.std.specs.List.{flat_map}
use Rattle.hm_base.specs.Bytes.{run_word}
use Rattle.hm_journal.proofs.words.push_more_runs.Given as goal

abbrev pub invariant-loop-byte : goal.invariant-loop-byte
invariant-loop-byte l =
    string_bytes l.out ++ flat_map (λ run. 44 ∷ run_word run) (drop l.byte-index l.runs)
    ≡ string_bytes l.fn.out ++ flat_map (λ run. 44 ∷ run_word run) l.runs
