-- Each answer of a run comes exactly of the calls that its step made.
use Rattle.std.proofs.Common.{◌≡◌, inl, inr, ℕ, ◌+◌, List, [], Some, None, sym, ap, subst}
use Rattle.std.proofs.lemmas.Option.{none-some, same_Some}
use Rattle.hm_outside.specs.declared.pages.Pages as pages
use Rattle.hm_model.specs.declared.answer.Answer.{Answer}
use Rattle.hm_report.specs.declared.results.StepResult.{StepResult}
use Rattle.hm_sizes.specs.declared.config.Config.{Config}
use Rattle.hm_trace.specs.Views.{StepView}
use Rattle.hm_heap.specs.declared.close.Closed.{Closed}
use Rattle.hm_run.specs.declared.words.Options.{Options}
use Rattle.hm_run.specs.Words.{config_of}
use Rattle.hm_laws.specs.Answers.{AnswersAs, AnswersHaveCauses, SkippedSteps}
use Rattle.hm_laws.specs.Steps.{Added, AreOfStep, calls_in}
use Rattle.hm_laws.proofs.Adding.{IsDone}
use Rattle.hm_laws.proofs.Answering.{answered}
use Rattle.hm_laws.proofs.Moves.{ran}
use Rattle.hm_laws.proofs.OneAnswer.{one_answer}

done_as : (c : Config) (thread : ℕ) (step : StepView) (base : ℕ) (x : Answer) (added : List Added) → IsDone c thread step added (record { base = base; answer = Some x })
    → AnswersAs c step base (calls_in added) x
done_as c thread step base x added (inl skip) = absurd (none-some x (sym (ap (λ (r : StepResult). r.answer) skip.0)))
done_as c thread step base x added (inr done) =
    subst (λ (y : Answer). AnswersAs c step base (calls_in added) y) (sym (same_Some x done.0 (ap (λ (r : StepResult). r.answer) done.1)))
    (answered c thread step base done.2.0 added done.0 done.2.1 done.2.2)

skipped_as : (c : Config) (thread : ℕ) (step : StepView) (base : ℕ) (added : List Added) → IsDone c thread step added (record { base = base; answer = None }) → added ≡ []
skipped_as c thread step base added (inl skip) = skip.1
skipped_as c thread step base added (inr done) = absurd (none-some done.0 (ap (λ (r : StepResult). r.answer) done.1))

module _ {P : Type 0} (meaning : pages.Ghosts P) (o : Options) (closed : Closed P) where
  pub answers_have_causes : AnswersHaveCauses meaning o closed
  answers_have_causes trace results scripts steps step base answer replayed at =
      let it = ran meaning o closed trace results scripts steps step (record { base = base; answer = Some answer }) replayed at in
      let so : AnswersAs (config_of o) step base (calls_in it.added) answer = done_as (config_of o) at.script.thread step base answer it.added it.done in
      record {
        added = it.added;
        of_step = record { parts = it.parts; all = it.all };
        exact = λ other. (
          λ same. subst (λ (y : Answer). AnswersAs (config_of o) step base (calls_in it.added) y) same so,
          λ theirs. one_answer (config_of o) step base (calls_in it.added) answer other so theirs,
        );
      }

  pub skipped_steps : SkippedSteps meaning o closed
  skipped_steps trace results scripts steps step base replayed at =
      let it = ran meaning o closed trace results scripts steps step (record { base = base; answer = None }) replayed at in
      subst (λ (added : List Added). AreOfStep closed.histories (scripts + 1) (steps + 1) added) (skipped_as (config_of o) at.script.thread step base it.added it.done)
      (record { parts = it.parts; all = it.all })
