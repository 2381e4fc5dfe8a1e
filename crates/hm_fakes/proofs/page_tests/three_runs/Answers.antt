use Rattle.std.proofs.Common.{ℕ, ◌+◌, ◌*◌, ◌<◌, refl, sym, ap, subst, arith, inl, inr}
use Rattle.hm_outside.specs.PageRuns.{PageRuns, MeetsNone, IsPageRun}
use Rattle.hm_outside.proofs.RunFacts.{empty_meets_none, inserted_meets_none, inserted_is_run}
use Rattle.hm_fakes.specs.PlainPages.{Plain}
use Rattle.hm_fakes.proofs.page_tests.three_runs.Goals as goal

pub make_accessible-requires-clause-apart : goal.make_accessible-requires-clause-apart
make_accessible-requires-clause-apart c t =
    subst (λ (m : PageRuns). MeetsNone m (c.args.low + 16384) (4096 * c.args.count)) (ap (λ (p : Plain). p.runs) (sym c.new-pages.ensures)) (empty_meets_none (c.args.low + 16384) (4096 * c.args.count))

pub make_accessible-requires-2-clause-apart : goal.make_accessible-requires-2-clause-apart
make_accessible-requires-2-clause-apart c t =
    let size = 4096 * c.args.count in
    let nothing : (first : ℕ) → MeetsNone c.new-pages.result.runs first size = λ first. subst (λ (m : PageRuns). MeetsNone m first size) (ap (λ (p : Plain). p.runs) (sym c.new-pages.ensures)) (empty_meets_none first size) in
    let some : 0 < size = omega (arith, c.requires.some) in
    subst (λ (m : PageRuns). MeetsNone m c.args.low size) (sym (c.in_ok-make_accessible.ensures.made refl))
    (inserted_meets_none c.new-pages.result.runs (c.args.low + 16384) size c.args.low size some some (inr (omega (arith, c.requires.few))) (nothing c.args.low))

pub make_accessible-requires-3-clause-apart : goal.make_accessible-requires-3-clause-apart
make_accessible-requires-3-clause-apart c t =
    let size = 4096 * c.args.count in
    let middle = c.args.low + 8192 in
    let some : 0 < size = omega (arith, c.requires.some) in
    let nothing : MeetsNone c.new-pages.result.runs middle size = subst (λ (m : PageRuns). MeetsNone m middle size) (ap (λ (p : Plain). p.runs) (sym c.new-pages.ensures)) (empty_meets_none middle size) in
    let after_one : MeetsNone c.make_accessible.new.self.runs middle size =
    subst (λ (m : PageRuns). MeetsNone m middle size) (sym (c.in_ok-make_accessible.ensures.made refl)) (inserted_meets_none c.new-pages.result.runs (c.args.low + 16384) size middle size some some (inr (omega (arith, c.requires.few))) nothing) in
    subst (λ (m : PageRuns). MeetsNone m middle size) (sym (c.in_ok-make_accessible-2.ensures.made refl))
    (inserted_meets_none c.make_accessible.new.self.runs c.args.low size middle size some some (inl (omega (arith, c.requires.few))) after_one)

pub returns : goal.returns
returns c =
    subst (λ (m : PageRuns). IsPageRun m (c.args.low + 8192) (4096 * c.args.count)) (sym (c.in_ok-make_accessible-3.ensures.made refl))
    (inserted_is_run c.make_accessible-2.new.self.runs (c.args.low + 8192) (4096 * c.args.count))
