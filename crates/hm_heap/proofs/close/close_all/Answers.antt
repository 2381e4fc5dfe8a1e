use Rattle.std.proofs.Common.{arith}
use Rattle.hm_heap.proofs.Closing.{closes_more, closes_all}
use Rattle.hm_heap.proofs.close.close_all.Goals as goal

pub loop-lock-preserved : goal.loop-lock-preserved
loop-lock-preserved g c =
    let i = c.loop-lock.invariant in (
      rw (c.push_reserved.ensures.items, c.push_reserved-in-Some.ensures.items) (closes_more g.P.Pages c.args.locks.items c.loop-lock.locks.items c.pop.new.self.items c.in-Some.lock
          c.args.turns.items c.loop-lock.turns.items c.pop-in-Some.new.self.items c.in-Some-pop.turn c.loop-lock.histories.items c.close_one-history.result.0 c.loop-lock.pages.items c.close_one-history.result.1
          i.0 (grind arith) (grind arith) c.close_one-history.ensures),
      (grind arith, grind arith),
    )

pub returns : goal.returns
returns g c =
    rw (c.reverse.ensures.items, c.reverse-2.ensures.items) (closes_all g.P.Pages c.args.locks.items c.args.turns.items c.loop-lock.locks.items c.loop-lock.turns.items c.loop-lock.histories.items c.loop-lock.pages.items
    c.requires.of.same (grind arith) c.loop-lock.invariant.0)
