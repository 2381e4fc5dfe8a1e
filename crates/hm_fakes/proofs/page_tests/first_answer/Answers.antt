use Rattle.std.proofs.Common.{◌*◌, sym, subst}
use Rattle.hm_outside.specs.PageRuns.{PageRuns, MeetsNone}
use Rattle.hm_outside.proofs.RunFacts.{empty_meets_none}
use Rattle.hm_fakes.proofs.page_tests.first_answer.Goals as goal

pub make_accessible-requires-clause-apart : goal.make_accessible-requires-clause-apart
make_accessible-requires-clause-apart g c t =
    subst (λ (m : PageRuns). MeetsNone m c.args.first (4096 * c.args.count)) (sym (c.requires.nothing t)) (empty_meets_none c.args.first (4096 * c.args.count))
