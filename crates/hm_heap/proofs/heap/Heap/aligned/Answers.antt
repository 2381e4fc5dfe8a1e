use Rattle.std.proofs.Common.{subst}
use Rattle.hm_model.specs.declared.answer.Answer.TheVariants.{BadAlignment}
use Rattle.hm_sizes.specs.Aligned.{AlignedGives}
use Rattle.hm_heap.specs.Plans.{Done}
use Rattle.hm_heap.proofs.Answering.{answers_at_once, no_alignment_plan}
use Rattle.hm_heap.proofs.heap.Heap.aligned.Goals as goal

pub returns-in-None-clause-served : goal.returns-in-None-clause-served
returns-in-None-clause-served g c = record {
  plan = Done BadAlignment;
  is = no_alignment_plan _ _ c.args.align c.args.asked (subst (AlignedGives c.args.asked c.args.align) c.in-None.is c.class_aligned.ensures);
  carried = answers_at_once c.args.self.now c.args.pass.now c.args.step BadAlignment c.requires.of tt;
}

pub returns-in-Some-clause-multiple : goal.returns-in-Some-clause-multiple
returns-in-Some-clause-multiple g c = c.allot.ensures.multiple (subst (AlignedGives c.args.asked c.args.align) c.in-Some.is c.class_aligned.ensures)
