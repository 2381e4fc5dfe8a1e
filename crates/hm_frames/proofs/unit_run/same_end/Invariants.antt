use Rattle.std.proofs.Common.{◌≡◌, ℕ, ◌<◌, ◌≤◌}
use Rattle.std.specs.Prelude.{get_or}
use Rattle.hm_frames.specs.declared.unit.UnitBytes.TheVariants.{Same}
use Rattle.hm_frames.proofs.unit_run.same_end.Given as goal

abbrev pub invariant-loop-unit : goal.invariant-loop-unit
invariant-loop-unit l = (p : ℕ) → l.first ≤ p → p < l.unit → get_or l.units p (Same 0) ≡ get_or l.units l.first (Same 0)
