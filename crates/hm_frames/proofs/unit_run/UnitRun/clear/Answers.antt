use Rattle.std.proofs.Common.{◌≡◌, ℕ, ◌*◌, List, Bool, length, refl, sym, ap, ◌∙◌, subst, arith}
use Rattle.hm_frames.specs.OwnUnits.{KeptRun, OwnFilled, none_own}
use Rattle.hm_frames.proofs.Keeping.{kept_long}
use Rattle.hm_frames.proofs.Over.{all_filled}
use Rattle.hm_frames.proofs.Owning.{bytes_are, own_count, all_filled_own}
use Rattle.hm_frames.proofs.unit_run.UnitRun.clear.Goals as goal

pub returns-clause-bytes : goal.returns-clause-bytes
returns-clause-bytes c =
    let run = c.fill.inside in
    c.fill-2.ensures.bytes
    ∙ all_filled c.args.self.now.bytes run.len 0
    (sym (sym (ap (λ (l : List ℕ). length l) (bytes_are c.fill.view_is)) ∙ kept_long run.units.items run.contents.raw_cells ∙ c.fill.invariant.long))

pub returns-clause-own : goal.returns-clause-own
returns-clause-own c =
    let run = c.fill.inside in
    let old = c.args.self.now in
    let long : length old.bytes ≡ run.len = sym (ap (λ (l : List ℕ). length l) (bytes_are c.fill.view_is)) ∙ kept_long run.units.items run.contents.raw_cells ∙ c.fill.invariant.long in
    let units : length old.own ≡ length run.units.items = sym (ap (λ (r : KeptRun). length r.own) c.fill.view_is) ∙ own_count run.units.items in
    all_filled_own old.own c.fill-2.new.self.own run.len (omega (arith, units, c.fill.invariant.long, c.fill.invariant.kept.count)) c.fill-2.ensures.own
    ∙ ap none_own (sym long)
