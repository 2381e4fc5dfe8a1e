use Rattle.std.proofs.Common.{ℕ, ◌*◌, ◌/◌, List, replicate, Option, ap, ◌∙◌, arith}
use Rattle.hm_frames.specs.declared.unit.UnitBytes.{UnitBytes}
use Rattle.hm_frames.specs.declared.unit.UnitBytes.TheVariants.{Same}
use Rattle.hm_frames.specs.Units.{bytes_kept, own_units}
use Rattle.hm_frames.specs.OwnUnits.{none_own}
use Rattle.hm_frames.proofs.Keeping.{all_zero}
use Rattle.hm_frames.proofs.Owning.{all_same_own}
use Rattle.hm_frames.proofs.unit_run.UnitRun.zeroed.Goals as goal

pub returns-clause-bytes : goal.returns-clause-bytes
returns-clause-bytes c =
    let len = c.args.pages * 4096 in
    ap (λ (l : List UnitBytes). bytes_kept l c.in-Some.contents.raw_cells) (c.in_ok-units.ensures.items_if_clones_equal (λ y is. is))
    ∙ ap (λ (l : List (Option ℕ)). bytes_kept (replicate (len / 512) (Same 0)) l) c.in-Some.ensures.1
    ∙ all_zero len (len / 512)
    ∙ ap (λ (n : ℕ). replicate n 0) (omega arith)

pub returns-clause-own : goal.returns-clause-own
returns-clause-own c =
    let len = c.args.pages * 4096 in
    ap own_units (c.in_ok-units.ensures.items_if_clones_equal (λ y is. is)) ∙ all_same_own (len / 512)
    ∙ ap none_own {x = len} {y = 4096 * c.args.pages} (omega arith)
