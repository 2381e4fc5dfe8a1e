use Rattle.hm_trace.specs.Views.{scripts_of}
use Rattle.hm_laws.proofs.Notes.{unnoted_text, runs_without, reports_without}
use Rattle.hm_laws.proofs.notes_change_lines_alone.Goals as goal

pub returns-clause-texts : goal.returns-clause-texts
returns-clause-texts g c = λ trace. record {
  text = unnoted_text trace;
  is_trace = λ fits. (c.first_version.ensures.all (scripts_of trace) fits).0;
}

pub returns-clause-runs : goal.returns-clause-runs
returns-clause-runs g c = λ o closed. runs_without g.P.Pages o closed

pub returns-clause-reports : goal.returns-clause-reports
returns-clause-reports g c = λ o closed. reports_without o closed
