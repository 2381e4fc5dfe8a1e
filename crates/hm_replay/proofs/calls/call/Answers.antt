use Rattle.std.proofs.Common.{Some}
use Rattle.hm_heap.specs.Calls.{free_plan, read_plan, usable_plan}
use Rattle.hm_replay.proofs.Calling.{carries_is, respelled, serves_answer}
use Rattle.hm_replay.proofs.calls.call.Goals as goal

pub returns-in-Malloc : goal.returns-in-Malloc
returns-in-Malloc g c = record {
  called =
      respelled c.args.pass.now c.malloc.new.pass c.args.step_number c.args.base c.args.step.now _ c.malloc.result
      c.in-Malloc.is c.malloc.ensures.called;
}

pub returns-in-Calloc : goal.returns-in-Calloc
returns-in-Calloc g c = record {
  called =
      respelled c.args.pass.now c.calloc.new.pass c.args.step_number c.args.base c.args.step.now _ c.calloc.result
      c.in-Calloc.is (serves_answer _ _ _ _ _ c.calloc.ensures.served);
}

pub returns-in-Aligned : goal.returns-in-Aligned
returns-in-Aligned g c = record {
  called =
      respelled c.args.pass.now c.aligned.new.pass c.args.step_number c.args.base c.args.step.now _ c.aligned.result
      c.in-Aligned.is (serves_answer _ _ _ _ _ c.aligned.ensures.served);
}

pub returns-in-Realloc : goal.returns-in-Realloc
returns-in-Realloc g c = record {
  called =
      respelled c.args.pass.now c.realloc.new.pass c.args.step_number c.args.base c.args.step.now _ c.realloc.result
      c.in-Realloc.is (serves_answer _ _ _ _ _ c.realloc.ensures.served);
}

pub returns-in-Free : goal.returns-in-Free
returns-in-Free g c = record {
  called =
      respelled c.args.pass.now c.free.new.pass c.args.step_number c.args.base c.args.step.now _ c.free.result
      c.in-Free.is c.free.ensures.called;
}

pub returns-in-Sfree : goal.returns-in-Sfree
returns-in-Sfree g c = record {
  called =
      respelled c.args.pass.now c.free_sized.new.pass c.args.step_number c.args.base c.args.step.now _ c.free_sized.result
      c.in-Sfree.is (carries_is (free_plan c.args.setting.now.heap.now.config c.args.base (Some c.in-Sfree.size)) _ _ _ _ c.free_sized.ensures.carried);
}

pub returns-in-Write : goal.returns-in-Write
returns-in-Write g c = record {
  called =
      respelled c.args.pass.now c.write.new.pass c.args.step_number c.args.base c.args.step.now _ c.write.result
      c.in-Write.is c.write.ensures.called;
}

pub returns-in-Read : goal.returns-in-Read
returns-in-Read g c = record {
  called =
      respelled c.args.pass.now c.read.new.pass c.args.step_number c.args.base c.args.step.now _ c.read.result
      c.in-Read.is (carries_is (read_plan c.args.setting.now.heap.now.config c.args.base c.in-Read.len) _ _ _ _ c.read.ensures.carried);
}

pub returns-in-Size : goal.returns-in-Size
returns-in-Size g c = record {
  called =
      respelled c.args.pass.now c.usable.new.pass c.args.step_number c.args.base c.args.step.now _ c.usable.result
      c.in-Size.is (carries_is (usable_plan c.args.setting.now.heap.now.config c.args.base) _ _ _ _ c.usable.ensures.carried);
}
