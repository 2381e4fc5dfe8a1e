use Rattle.std.proofs.Common.{◌≡◌, ℕ, ◌<◌, ◌≤◌, ◌⊎◌, length, max}
use Rattle.std.specs.Prelude.{get_or}
use Rattle.hm_frames.specs.declared.unit.UnitBytes.TheVariants.{Same, Own}
use Rattle.hm_frames.specs.Units.{bytes_kept, AreKept}
use Rattle.hm_frames.proofs.unit_run.make_all_own.Given as goal

abbrev pub invariant-loop-unit : goal.invariant-loop-unit
invariant-loop-unit l = record {
  at : l.contents.at ≡ l.fn.contents.at;
  same : bytes_kept l.units l.contents.raw_cells ≡ bytes_kept l.fn.units l.fn.contents.raw_cells;
  kept : AreKept l.units l.contents.raw_cells;
  count : length l.units ≡ length l.fn.units;
  high : l.unit ≤ max l.first l.end;
  own : (p : ℕ) → l.first ≤ p → p < l.unit → get_or l.units p (Same 0) ≡ Own;
  others : (p : ℕ) → (p < l.first) ⊎ (l.unit ≤ p) → get_or l.units p (Same 0) ≡ get_or l.fn.units p (Same 0);
}
