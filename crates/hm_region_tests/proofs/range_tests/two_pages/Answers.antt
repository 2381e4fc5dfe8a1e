use Rattle.std.proofs.Common.{sym, ap, subst}
use Rattle.hm_outside.specs.PageRuns.{PageRuns, MeetsNone}
use Rattle.hm_outside.proofs.RunFacts.{empty_meets_none}
use Rattle.hm_fakes.specs.PlainPages.{Plain}
use Rattle.hm_region_tests.proofs.range_tests.two_pages.Goals as goal

-- there is no run yet
pub make_accessible-requires-clause-apart : goal.make_accessible-requires-clause-apart
make_accessible-requires-clause-apart c t =
    subst (λ (m : PageRuns). MeetsNone m 4096 8192) (ap (λ (p : Plain). p.runs) (sym c.new-pages.ensures)) (empty_meets_none 4096 8192)
