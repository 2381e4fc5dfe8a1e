use Rattle.std.proofs.Common.{◌≡◌, ◌≤◌, length, vec_len, ◌-◌}
use Rattle.hm_outside.specs.Streams.{Taken}
use Rattle.hm_run.proofs.reading.read_by.Given as goal
use Rattle.hm_run.specs.Limits.{most_taken, most_piece}

abbrev pub invariant-turns : goal.invariant-turns
invariant-turns g l = record {
  piece : length l.piece ≡ most_piece;
  taken : Taken (g.S.Source.left l.fn.source) (g.S.Source.left l.source) l.bytes.items;
  within : vec_len l.bytes ≤ most_taken;
  faults : g.S.Source.faults l.source ≡ g.S.Source.faults l.fn.source;
}

abbrev pub decreases-turns : goal.decreases-turns
decreases-turns g l = most_taken - vec_len l.bytes
