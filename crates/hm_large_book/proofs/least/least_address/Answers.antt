use Rattle.std.proofs.Common.{ℕ, ◌+◌, ◌*◌, refl, subst}
use Rattle.hm_space.specs.Space.{IsFit, IsLowestFit}
use Rattle.hm_large.proofs.Addresses.{lowest_candidate, no_candidate}
use Rattle.hm_large_book.proofs.least.least_address.Goals as goal

pub returns-in-None : goal.returns-in-None
returns-in-None c = λ cfg s valid free.
    let len : ℕ = c.args.size + 2 * (4096 * c.args.guard) in
    no_candidate cfg s c.args.space.now c.args.align c.args.size c.args.guard len free refl
    (subst (λ (m : ℕ). (at : ℕ) → IsFit c.args.space.now len m (4096 * c.args.guard) at → ⊥) c.max.ensures c.in-None.ensures.none)

pub returns-in-Some : goal.returns-in-Some
returns-in-Some c = λ cfg s valid free.
    let len : ℕ = c.args.size + 2 * (4096 * c.args.guard) in
    lowest_candidate cfg s c.args.space.now c.args.align c.args.size c.args.guard len free c.requires.some refl c.in-Some.start
    (subst (λ (m : ℕ). IsLowestFit c.args.space.now len m (4096 * c.args.guard) c.in-Some.start) c.max.ensures c.in-Some.ensures.lowest)
