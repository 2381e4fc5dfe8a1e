use Rattle.std.proofs.Common.{◌+◌, ◌*◌, refl, sym, subst}
use Rattle.hm_outside.specs.PageRuns.{PageRuns, IsPageRun}
use Rattle.hm_outside.proofs.RunFacts.{inserted_is_run}
use Rattle.hm_fakes.proofs.page_tests.walk.Goals as goal

pub drop_contents-requires : goal.drop_contents-requires
drop_contents-requires g c = record {
  run = λ t. subst (λ (m : PageRuns). IsPageRun m (c.args.low + 8192) (4096 * c.args.count)) (sym (c.purge.ensures.zeroed refl)) (inserted_is_run c.write_at.new.pages.runs (c.args.low + 8192) (4096 * c.args.count));
}
