use Rattle.std.proofs.Common.{◌≡◌, ◌+◌, count_by, take}
use Rattle.hm_report.specs.declared.counts.Kind.{Kind}
use Rattle.hm_report.specs.Summary.{is_of}
use Rattle.hm_report.specs.Counts.{count_of}
use Rattle.hm_report.proofs.counts.Counts.add_all.Given as goal

abbrev pub invariant-loop-step : goal.invariant-loop-step
invariant-loop-step l = (kind : Kind) → count_of l.self kind ≡ count_of l.fn.self kind + count_by (λ step. is_of kind step) (take l.step-index l.steps)
