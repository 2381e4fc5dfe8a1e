use Rattle.std.proofs.Common.{arith}
use Rattle.std.proofs.lemmas.List.{take_rest}
use Rattle.hm_fakes.proofs.Taking.{took}
use Rattle.hm_fakes.proofs.vec_source.VecSourceSource.take.Goals as goal

pub returns-clause-bytes : goal.returns-clause-bytes
returns-clause-bytes c =
    let call = c.move_front-count in
    let at = c.args.self.now.at in
    let deref = c.deref-2 in
    let moved = rw (deref.ensures.value, take_rest) at call.ensures.moved in
    let count = rw (deref.ensures.value, take_rest) at call.ensures.count in
    took c.args.self.now.bytes.items c.args.into.now call.new.into at call.result c.max.result (omega arith) moved count
