use Rattle.std.proofs.Common.{sym, ap, subst, ◌∙◌}
use Rattle.hm_space.specs.Ranges.{AreApart}
use Rattle.hm_space.specs.Space.{FreeSpace}
use Rattle.hm_space.proofs.Fits.{all_left, lowest_here, later_left, none_left}
use Rattle.hm_space.proofs.space.Space.find.Goals as goal

pub loop-range-init : goal.loop-range-init
loop-range-init c =
    all_left c.args.self.now c.args.len c.args.align c.args.front c.deref-range-items.result.now (ap (λ (s : FreeSpace). s.ranges) (sym c.self.view_is) ∙ sym c.deref-range-items.ensures.value)
    (subst (AreApart 0) (sym c.deref-range-items.ensures.value) c.self.invariant.0) c.requires.some

pub returns-in-Some-clause-lowest : goal.returns-in-Some-clause-lowest
returns-in-Some-clause-lowest c =
    lowest_here c.args.self.now c.args.len c.args.align c.args.front c.deref-range-items.result.now c.loop-range.range-index record { start = 0; len = 0 } c.loop-range.invariant c.loop-range-test.true c.in-Some.at
    (ap (λ (s : FreeSpace). s.ranges) (sym c.self.view_is) ∙ sym c.deref-range-items.ensures.value) c.in-Some.ensures.fits c.in-Some.ensures.lowest

pub loop-range-preserved : goal.loop-range-preserved
loop-range-preserved c =
    later_left c.args.self.now c.args.len c.args.align c.args.front c.deref-range-items.result.now c.loop-range.range-index record { start = 0; len = 0 } c.loop-range.invariant c.loop-range-test.true c.in_default.ensures.none

pub returns-clause-none : goal.returns-clause-none
returns-clause-none c at fits = none_left c.args.self.now c.args.len c.args.align c.args.front c.deref-range-items.result.now c.loop-range.range-index at c.loop-range-test.false c.loop-range.invariant fits
