use Rattle.std.proofs.Common.{◌≡◌, replicate}
use Rattle.hm_frames.specs.RawCells.{with_raw_cells}
use Rattle.hm_frames.proofs.block.Contents.fill.Given as goal

abbrev pub invariant-loop-i : goal.invariant-loop-i
invariant-loop-i l = (l.self.at ≡ l.fn.self.at) × (l.self.raw_cells ≡ with_raw_cells l.fn.self.raw_cells l.from l.i (replicate l.i l.byte))
