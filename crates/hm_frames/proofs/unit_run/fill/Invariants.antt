use Rattle.std.proofs.Common.{◌≡◌, ◌+◌, ◌-◌, ◌≤◌, length}
use Rattle.hm_frames.specs.Units.{bytes_kept, own_units, AreKept}
use Rattle.hm_frames.specs.OwnUnits.{OwnFilled}
use Rattle.hm_frames.proofs.Over.{filled}
use Rattle.hm_frames.proofs.Owning.{Stops}
use Rattle.hm_frames.proofs.unit_run.fill.Given as goal

abbrev pub invariant-loop-at : goal.invariant-loop-at
invariant-loop-at l = record {
  at : l.contents.at ≡ l.fn.contents.at;
  kept : AreKept l.units l.contents.raw_cells;
  count : length l.units ≡ length l.fn.units;
  bytes : bytes_kept l.units l.contents.raw_cells ≡ filled (bytes_kept l.fn.units l.fn.contents.raw_cells) l.byte l.from l.at;
  own : OwnFilled (own_units l.fn.units) l.from (l.at - l.from) (own_units l.units);
  stop : Stops l.from (l.from + l.len) l.at;
  low : l.from ≤ l.at;
  high : l.at ≤ l.from + l.len;
}

abbrev pub decreases-loop-at : goal.decreases-loop-at
decreases-loop-at l = l.end - l.at
