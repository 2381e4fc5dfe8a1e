use Rattle.hm_trace.specs.Views.{steps_view}
use Rattle.hm_trace.proofs.Scripts.{thread_range}
use Rattle.hm_trace.proofs.trace.Script.thread.Goals as goal

pub returns-clause-range : goal.returns-clause-range
returns-clause-range c =
    thread_range (record { thread = c.self.inside.thread; steps = steps_view c.self.inside.steps }) c.self.invariant.0
