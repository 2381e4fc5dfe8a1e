use Rattle.hm_run.proofs.Told.{told_results, told_text, told_entries}
use Rattle.hm_run.proofs.laws.findings_are_exact.Goals as goal

pub returns-clause-results : goal.returns-clause-results
returns-clause-results g c = λ words run source sink results ends has sound.
    told_results g.P.Pages run source sink sound results has words ends

pub returns-clause-text : goal.returns-clause-text
returns-clause-text g c = λ words run source sink results held text ends asks has sound before after.
    told_text g.P.Pages run source sink sound results has c.findings_show.ensures held text before after words ends asks

pub returns-clause-entries : goal.returns-clause-entries
returns-clause-entries g c = λ words run source sink results closed ends has sound closed_is.
    told_entries g.P.Pages run source sink sound results has closed closed_is words ends
