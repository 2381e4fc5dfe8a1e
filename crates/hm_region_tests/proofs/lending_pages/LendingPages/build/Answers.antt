use Rattle.std.proofs.Common.{sym, ap, ◌∙◌, subst}
use Rattle.std.specs.FinMap as map
use Rattle.std.proofs.lemmas.Option.{none-some}
use Rattle.hm_outside.specs.PageRuns.{PageRuns, MeetsNone}
use Rattle.hm_fakes.specs.PlainPages.{Plain}
use Rattle.hm_region_tests.proofs.lending_pages.LendingPages.build.Goals as goal

-- there is no run yet
pub make_accessible-requires-clause-apart : goal.make_accessible-requires-clause-apart
make_accessible-requires-clause-apart c =
    λ tells. subst (λ (runs : PageRuns). MeetsNone runs 0 4096) (ap (λ (p : Plain). p.runs) (sym c.new-plain.ensures))
    (record { fresh = map.get-empty _ 0; apart = λ q b is. absurd (none-some b (sym (map.get-empty _ q) ∙ is)) })
