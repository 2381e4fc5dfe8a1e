use Rattle.std.proofs.Common.{◌≡◌, true, subst}
use Rattle.std.specs.List.{list_all}
use Rattle.hm_trace.specs.Traces.{is_step}
use Rattle.hm_trace.specs.Views.{ScriptView, steps_view}
use Rattle.hm_trace.proofs.Scripts.{steps_valid}
use Rattle.hm_trace.proofs.trace.Script.steps.Goals as goal

pub returns-clause-valid : goal.returns-clause-valid
returns-clause-valid c =
    subst (λ (s : ScriptView). list_all is_step s.steps ≡ true) c.self.view_is
    (steps_valid (record { thread = c.self.inside.thread; steps = steps_view c.self.inside.steps })
    c.self.invariant.0)
