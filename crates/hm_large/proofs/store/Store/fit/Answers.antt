use Rattle.std.proofs.Common.{ℕ, ◌*◌, Option, MatchOption, sym, subst}
use Rattle.hm_space.specs.Space.{IsFit, IsLowestFit}
use Rattle.hm_large_rules.specs.Rules.{IsCandidate, IsLeastCandidate}
use Rattle.hm_large.proofs.Addresses.{lowest_candidate, no_candidate}
use Rattle.hm_large.proofs.store.Store.fit.Goals as goal

pub returns-in_err-start-clause-fits : goal.returns-in_err-start-clause-fits
returns-in_err-start-clause-fits c =
    λ config seed s shows. subst (λ (r : Option ℕ). MatchOption r ((a : ℕ) → IsCandidate config s c.args.align c.args.size c.args.guard a → ⊥) (IsLeastCandidate config s c.args.align c.args.size c.args.guard)) (sym c.from_residual.ensures)
    (no_candidate config s c.args.self.now.space c.args.align c.args.size c.args.guard c.span.result shows.space c.span.ensures
    (subst (λ (al : ℕ). (at : ℕ) → IsFit c.args.self.now.space c.span.result al (4096 * c.args.guard) at → ⊥) c.max.ensures c.in_err-start.ensures.none))

pub returns-clause-fits : goal.returns-clause-fits
returns-clause-fits c =
    λ config seed s shows. lowest_candidate config s c.args.self.now.space c.args.align c.args.size c.args.guard c.span.result shows.space c.requires.some c.span.ensures c.in_ok-start.start
    (subst (λ (al : ℕ). IsLowestFit c.args.self.now.space c.span.result al (4096 * c.args.guard) c.in_ok-start.start) c.max.ensures c.in_ok-start.ensures.lowest)
