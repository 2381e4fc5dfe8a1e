use Rattle.std.proofs.Common.{arith, subst}
use Rattle.hm_heap.specs.Passes.{AreOf}
use Rattle.hm_heap.specs.Requests.{call_of}
use Rattle.hm_heap.proofs.Placing.{called_stays, pass_set, of_set}
use Rattle.hm_heap.proofs.Reaching.{called_reaches, region_there}
use Rattle.hm_heap.proofs.heap.Heap.make.Goals as goal

pub invariant_of-pass : goal.invariant_of-pass
invariant_of-pass g c =
    let p = c.pass.inside in
    pass_set p.caller p.thread p.splits p.out p.turns.items c.args.index c.index_mut.result.now c.enter_at.new.turn c.pass.invariant (grind arith) c.index_mut.ensures.value
    (called_stays c.index_mut.result.now c.enter_at.new.turn _ _ _ c.enter_at.ensures.made.lock c.enter_at.ensures.made.called)

pub returns-clause-goes_on : goal.returns-clause-goes_on
returns-clause-goes_on g c = record {
  same = grind arith;
  of =
      of_set c.args.self.now.locks c.pass.inside.turns.items c.args.index c.index_mut.result.now c.enter_at.new.turn
      (subst (λ z. AreOf c.args.self.now.locks z) (grind arith) c.requires.of) c.requires.index c.index_mut.ensures.value
      (called_stays c.index_mut.result.now c.enter_at.new.turn _ _ _ c.enter_at.ensures.made.lock c.enter_at.ensures.made.called);
}

pub returns-clause-reach : goal.returns-clause-reach
returns-clause-reach g c =
    called_reaches _ c.self.inside.config c.args.index (call_of c.args.part.request) c.enter_at.result c.index_mut.result.now.knows c.enter_at.new.turn.knows c.self.invariant.valid.arenas_most
    (region_there c.self.inside.config c.self.inside.seed c.self.inside.locks.items c.pass.inside.turns.items c.args.index c.index_mut.result.now c.self.invariant (grind arith)
    (subst (λ z. AreOf c.self.inside.locks.items z) (grind arith) (subst (λ z. AreOf z c.args.pass.now.turns) (grind arith) c.requires.of)) c.index_mut.ensures.value)
    c.enter_at.ensures.made.called
