use Rattle.std.proofs.Common.{◌+◌, ◌<◌, ◌≤◌, List, length}
use Rattle.hm_model.specs.declared.entry.Entry.{Entry}
use Rattle.hm_check.specs.declared.verdict.Verdict.{Verdict}
use Rattle.hm_check.specs.Progress.{Knows, reader_of}
use Rattle.hm_check.specs.Verdicts.{IsVerdict, Judges, lines_in}
use Rattle.hm_check.proofs.checking.check_journal.Given as goal

abbrev pub invariant-lines : goal.invariant-lines
invariant-lines l = record {
  past : List Entry;
  known : Knows l.progress past;
  number : l.number + length l.rest ≤ length l.bytes + 1;
  total : l.progress.total < l.number;
  verdict : (v : Verdict) → Judges (reader_of l.progress past) l.number (lines_in l.rest) v → IsVerdict l.bytes v;
}

abbrev pub decreases-lines : goal.decreases-lines
decreases-lines l = length l.rest
