use Rattle.hm_trace.proofs.Kept.{padded}
use Rattle.hm_trace.proofs.names.Name.kept.Goals as goal

pub invariant_of-result-clause-zeros : goal.invariant_of-result-clause-zeros
invariant_of-result-clause-zeros c = padded c.args.word.now c.copy_from_slice.new.self c.copy_from_slice.ensures.after
