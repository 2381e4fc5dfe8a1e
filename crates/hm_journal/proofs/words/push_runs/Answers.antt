use Rattle.std.proofs.Common.{◌≡◌, List, ℕ, OnOk, string_bytes, subst}
use Rattle.hm_journal.proofs.Spaced.{runs_added}
use Rattle.hm_journal.proofs.words.push_runs.Goals as goal

pub returns-in_ok-push_run-in-Some : goal.returns-in_ok-push_run-in-Some
returns-in_ok-push_run-in-Some c =
    subst (λ (l : List ℕ). OnOk c.push_more_runs.result (string_bytes c.push_more_runs.new.out ≡ l))
    (runs_added c.in-Some.field-0-0.now c.in-Some.more.now c.args.runs.now (string_bytes c.args.out.now)
    (string_bytes c.push_str.new.self) (string_bytes c.push_run.new.out)
    c.in-Some.ensures.cases.0 c.in_ok-push_str-in-Some.ensures.bytes c.in_ok-push_run-in-Some.ensures)
    c.push_more_runs.ensures
