use Rattle.std.proofs.Common.{◌≡◌, ◌++◌, drop, map}
use Rattle.hm_trace.specs.Views.{steps_view}
use Rattle.hm_trace.specs.Spelling.{step_words, lines_text}
use Rattle.hm_trace.proofs.writing.push_steps.Given as goal

abbrev pub invariant-loop-step : goal.invariant-loop-step
invariant-loop-step l =
    l.out.items ++ lines_text (map step_words (steps_view (drop l.step-index l.steps)))
    ≡ l.fn.out.items ++ lines_text (map step_words (steps_view l.steps))
