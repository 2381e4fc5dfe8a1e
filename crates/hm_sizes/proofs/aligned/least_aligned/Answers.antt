use Rattle.std.proofs.Common.{ℕ, sym, subst, Option, MatchOption, rules, tests}
use Rattle.std.proofs.lemmas.Iterator.{IsFirst-from_position, YieldsList-from_slice}
use Rattle.hm_sizes.specs.declared.class.ClassId.{ClassId}
use Rattle.hm_sizes.specs.declared.table.TheConstants.{SIZE_CLASSES}
use Rattle.hm_sizes.specs.Aligned.{ServesAligned, IsLeastAligned}
use Rattle.hm_sizes.proofs.AlignedClasses.{Serves, NotServes, least_found, none_found}
use Rattle.hm_sizes.proofs.aligned.least_aligned.Goals as goal

pub returns-in_err-class : goal.returns-in_err-class
returns-in_err-class c =
    let found = IsFirst-from_position _ _ c.position.result (Serves c.args.size c.args.align) (NotServes c.args.size c.args.align) c.position.ensures.ran
    (YieldsList-from_slice SIZE_CLASSES cc) (λ x q k. search (rules, tests)) (λ x q k. search (rules, tests)) in
    subst (λ (o : Option ClassId). MatchOption o ((class : ℕ) → ¬ ServesAligned c.args.size c.args.align class) (λ class. IsLeastAligned c.args.size c.args.align class.0))
    (sym c.from_residual.ensures) (none_found c.args.size c.args.align c.position.result found c.in_err-class.was)

pub returns : goal.returns
returns c =
    let found = IsFirst-from_position _ _ c.position.result (Serves c.args.size c.args.align) (NotServes c.args.size c.args.align) c.position.ensures.ran
    (YieldsList-from_slice SIZE_CLASSES cc) (λ x q k. search (rules, tests)) (λ x q k. search (rules, tests)) in
    least_found c.args.size c.args.align c.position.result c.in_ok-class.class c.requires found c.in_ok-class.was
