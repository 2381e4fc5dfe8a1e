use Rattle.std.proofs.Common.{◌≡◌, ℕ, ◌+◌, ◌*◌, ◌<◌, ◌≤◌, refl, sym, ap, ◌∙◌, subst, arith, inl}
use Rattle.std.specs.FinMap as map
use Rattle.hm_base.specs.Lists.{zeros}
use Rattle.hm_outside.specs.PageRuns.{PageRuns, MeetsNone, IsPageRun}
use Rattle.hm_outside.proofs.RunFacts.{empty_meets_none, inserted_meets_none, inserted_is_run, others_stay}
use Rattle.hm_fakes.specs.FailingPages.{Failing}
use Rattle.hm_fakes.proofs.page_tests.failing_walk.Goals as goal

fresh : (runs : PageRuns) (first size : ℕ) → runs ≡ map.empty → MeetsNone runs first size
fresh runs first size is = subst (λ (m : PageRuns). MeetsNone m first size) (sym is) (empty_meets_none first size)

next : (runs after : PageRuns) (low size : ℕ) → runs ≡ map.empty → after ≡ map.insert runs low (zeros size) → 0 < size → size ≤ 8192 → MeetsNone after (low + 8192) size
next runs after low size is made some few = subst (λ (m : PageRuns). MeetsNone m (low + 8192) size) (sym made) (inserted_meets_none runs low size (low + 8192) size some some (inl (omega arith)) (fresh runs (low + 8192) size is))

nothing : (pages : Failing) (f : Failing) → pages ≡ f → f.runs ≡ map.empty → pages.runs ≡ map.empty
nothing pages f is none = ap (λ (p : Failing). p.runs) is ∙ none

pub make_accessible-requires-clause-apart : goal.make_accessible-requires-clause-apart
make_accessible-requires-clause-apart g c = fresh c.build-pages.result.runs c.args.low (4096 * c.args.count) (nothing _ _ c.build-pages.ensures refl)

pub make_accessible-requires-2-clause-apart : goal.make_accessible-requires-2-clause-apart
make_accessible-requires-2-clause-apart g c =
    next c.build-pages.result.runs c.make_accessible.new.self.runs c.args.low (4096 * c.args.count) (nothing _ _ c.build-pages.ensures refl) c.in_ok-make_accessible.ensures.made (omega (arith, c.requires.some)) (omega (arith, c.requires.few))

pub make_accessible-requires-3-clause-apart : goal.make_accessible-requires-3-clause-apart
make_accessible-requires-3-clause-apart g c =
    subst (λ (m : PageRuns). MeetsNone m (c.args.low + 8192) (4096 * c.args.count)) (sym c.in-Err.ensures.unchanged)
    (next c.build-pages.result.runs c.make_accessible.new.self.runs c.args.low (4096 * c.args.count) (nothing _ _ c.build-pages.ensures refl) c.in_ok-make_accessible.ensures.made (omega (arith, c.requires.some)) (omega (arith, c.requires.few)))

low_run : (runs one two three : PageRuns) (low size : ℕ) → one ≡ map.insert runs low (zeros size) → two ≡ one → three ≡ map.insert two (low + 8192) (zeros size) → IsPageRun three low size
low_run runs one two three low size first same second =
    subst (λ (m : PageRuns). IsPageRun m low size) (sym second)
    (others_stay two (low + 8192) low size (zeros size) (omega arith) (subst (λ (m : PageRuns). IsPageRun m low size) (sym (same ∙ first)) (inserted_is_run runs low size)))

pub drop_contents-requires : goal.drop_contents-requires
drop_contents-requires g c = record {
  run = low_run c.build-pages.result.runs c.make_accessible.new.self.runs c.make_accessible-2.new.self.runs c.make_accessible-3.new.self.runs c.args.low (4096 * c.args.count) c.in_ok-make_accessible.ensures.made c.in-Err.ensures.unchanged
      c.in_ok-make_accessible-2.ensures.made;
}

pub drop_contents-requires-2 : goal.drop_contents-requires-2
drop_contents-requires-2 g c = record {
  run = subst (λ (m : PageRuns). IsPageRun m c.args.low (4096 * c.args.count)) (sym c.in-Err-drop_contents.ensures.unchanged)
      (low_run c.build-pages.result.runs c.make_accessible.new.self.runs c.make_accessible-2.new.self.runs c.make_accessible-3.new.self.runs c.args.low (4096 * c.args.count) c.in_ok-make_accessible.ensures.made c.in-Err.ensures.unchanged
      c.in_ok-make_accessible-2.ensures.made);
}
