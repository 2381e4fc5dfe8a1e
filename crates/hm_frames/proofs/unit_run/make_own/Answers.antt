use Rattle.std.proofs.Common.{ℕ, List, slice_set, Option, sym, ap, ◌∙◌, subst}
use Rattle.hm_frames.specs.declared.unit.UnitBytes.TheVariants.{Own}
use Rattle.hm_frames.specs.Units.{bytes_kept, AreKept}
use Rattle.hm_frames.proofs.Keeping.{owned_bytes, owned_kept}
use Rattle.hm_frames.proofs.unit_run.make_own.Goals as goal

pub returns-in-Same-clause-same : goal.returns-in-Same-clause-same
returns-in-Same-clause-same c =
    let units = c.args.units.now in let unit = c.args.unit in
    ap (λ (l : List (Option ℕ)). bytes_kept (slice_set units unit Own) l) c.fill.ensures.1
    ∙ owned_bytes units c.args.contents.now.raw_cells unit c.in-Same.byte c.requires.kept c.requires.within c.in-Same.is

pub returns-in-Same-clause-kept : goal.returns-in-Same-clause-kept
returns-in-Same-clause-kept c =
    let units = c.args.units.now in let unit = c.args.unit in
    subst (λ (l : List (Option ℕ)). AreKept (slice_set units unit Own) l) (sym c.fill.ensures.1)
    (owned_kept units c.args.contents.now.raw_cells unit c.in-Same.byte c.requires.kept c.requires.within c.in-Same.is)
