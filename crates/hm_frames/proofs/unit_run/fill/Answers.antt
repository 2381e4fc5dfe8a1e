use Rattle.std.proofs.Common.{◌≡◌, ℕ, ◌+◌, ◌-◌, ◌≤◌, List, length, replicate, ap, ◌∙◌, arith}
use Rattle.hm_frames.specs.Units.{bytes_kept, own_units}
use Rattle.hm_frames.specs.Part.{over}
use Rattle.hm_frames.proofs.Keeping.{kept_long}
use Rattle.hm_frames.proofs.Over.{filled, filled_on}
use Rattle.hm_frames.proofs.Owning.{next_stop, filled_next}
use Rattle.hm_frames.proofs.unit_run.fill.Goals as goal

pub loop-at-preserved : goal.loop-at-preserved
loop-at-preserved c =
    let inv = c.loop-at.invariant in let done = c.fill_in_unit.ensures in
    let from = c.args.from in let byte = c.args.byte in let at = c.loop-at.at in let next = c.min-next.result in
    let units = c.args.units.now in let raw_cells = c.args.contents.now.raw_cells in
    let bytes = bytes_kept units raw_cells in
    let forth : at ≤ next = omega (arith, c.min-next.ensures, c.loop-at-test.true) in
    let within : next ≤ from + c.args.len = omega (arith, c.min-next.ensures) in
    let step : at + (next - at) ≡ next = omega arith in
    let fits : at + (next - at) ≤ length bytes = omega (arith, step, within, c.requires.within, kept_long units raw_cells) in
    record {
      at = done.at ∙ inv.at;
      kept = done.kept;
      count = done.count ∙ inv.count;
      bytes = done.filled ∙ ap (λ (l : List ℕ). over l at (next - at) (replicate (next - at) byte)) inv.bytes
          ∙ filled_on bytes byte from at (next - at) inv.low fits ∙ ap (filled bytes byte from) step;
      own = filled_next (own_units c.args.units.now) c.loop-at.units c.fill_in_unit.new.units from at next (from + c.args.len) inv.own inv.low c.loop-at-test.true inv.stop c.min-next.ensures done.count done.whole done.others;
      stop = next_stop from (from + c.args.len) at next c.min-next.ensures;
      low = omega arith;
      high = within;
    }
