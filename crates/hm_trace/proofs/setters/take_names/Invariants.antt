use Rattle.std.proofs.Common.{◌≡◌, ◌||◌, drop}
use Rattle.std.specs.List.{list_any}
use Rattle.hm_trace.specs.declared.names.Name.{Name}
use Rattle.hm_trace.specs.Traces.{sets_name}
use Rattle.hm_trace.specs.ReadState.{has_name}
use Rattle.hm_trace.specs.Views.{name_view, steps_view}
use Rattle.hm_trace.proofs.setters.take_names.Given as goal

abbrev pub invariant-loop-step : goal.invariant-loop-step
invariant-loop-step l = (q : Name)
    →
    (has_name l.names.keys (name_view q) || list_any (sets_name (name_view q))
    (steps_view (drop l.step-index l.steps)))
    ≡ (has_name l.fn.names.keys (name_view q) || list_any (sets_name (name_view q)) (steps_view l.steps))
