use Rattle.hm_trace.proofs.Exact.{is_found, is_only, is_faulted}
use Rattle.hm_trace.proofs.reading.read_trace.Goals as goal

pub returns-clause-found : goal.returns-clause-found
returns-clause-found c = is_found c.read_exact.result c.args.bytes.now c.read_exact.ensures

pub returns-clause-only : goal.returns-clause-only
returns-clause-only c = λ t v e. is_only c.read_exact.result c.args.bytes.now t c.read_exact.ensures v e

pub returns-clause-fault : goal.returns-clause-fault
returns-clause-fault c = is_faulted c.read_exact.result c.args.bytes.now c.read_exact.ensures
