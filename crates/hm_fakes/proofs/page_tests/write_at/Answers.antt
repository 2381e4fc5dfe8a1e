use Rattle.std.proofs.Common.{◌≡◌, List, ℕ, length, refl, sym, ap, subst}
use Rattle.hm_outside.specs.RunLists.{CanWrite}
use Rattle.hm_fakes.specs.PlainRuns.{with_range}
use Rattle.hm_fakes.specs.PlainLaws.{range_written}
use Rattle.hm_outside.proofs.RunFacts.{written_stays}
use Rattle.hm_fakes.proofs.page_tests.write_at.Goals as goal

pub returns-then-holds : goal.returns-then-holds
returns-then-holds c q n is =
    let w = c.copy_from_slice.new.self in
    let as_long : length w ≡ length c.args.bytes.now = ap (λ (l : List ℕ). length l) c.copy_from_slice.ensures.after in
    let can : CanWrite c.args.pages.now.runs c.args.addr (length w) = subst (λ (k : ℕ). CanWrite c.args.pages.now.runs c.args.addr k) (sym as_long) (c.holds.ensures.can.0 c.if-holds.true) in
    written_stays c.args.pages.now.runs (with_range c.args.pages.now.runs c.args.addr (length w) w) c.args.addr (length w) q n w refl ((range_written c.args.pages.now.runs c.args.addr w can).over refl) is
