use Rattle.hm_model.specs.declared.answer.Answer.TheVariants.{Overflow}
use Rattle.hm_heap.specs.Plans.{Done}
use Rattle.hm_heap.proofs.Answering.{answers_at_once, overflows}
use Rattle.hm_heap.proofs.heap.Heap.calloc.Goals as goal

pub returns-in-None : goal.returns-in-None
returns-in-None g c = record {
  served = record {
    plan = Done Overflow;
    is = overflows _ _ c.args.count c.args.size c.in-None.ensures;
    carried = answers_at_once c.args.self.now c.args.pass.now c.args.step Overflow c.requires.of tt;
  };
}
