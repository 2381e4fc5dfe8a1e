use Rattle.hm_laws.proofs.Causes.{answers_have_causes, skipped_steps}
use Rattle.hm_laws.proofs.answers_have_causes.Goals as goal

pub returns : goal.returns
returns g c = record {
  answered = λ o closed. answers_have_causes g.P.Pages o closed;
  skipped = λ o closed. skipped_steps g.P.Pages o closed;
}
