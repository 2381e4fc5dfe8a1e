-- Where reuse is not checked, no answer tells an overwrite.
use Rattle.std.proofs.Common.{◌≡◌, inl, inr, ℕ, ◌+◌, false, List, [], ◌∷◌, Some, sym, ap, refl, true≢false}
use Rattle.std.specs.Prelude.{slice_get}
use Rattle.hm_outside.specs.declared.pages.Pages as pages
use Rattle.hm_model.specs.declared.answer.Answer.TheVariants.{Reply as Replied}
use Rattle.hm_model.specs.declared.entry.Call.{Call}
use Rattle.hm_model.specs.declared.entry.Call.TheVariants.{Allot, Measure}
use Rattle.hm_model.specs.declared.entry.Reply.TheVariants.{Overwritten, Usable}
use Rattle.hm_trace.specs.Views.{StepView, Realloc, Size}
use Rattle.hm_heap.specs.declared.close.Closed.{Closed}
use Rattle.hm_run.specs.declared.words.Options.{Options}
use Rattle.hm_run.specs.Replayed.{AreEnds}
use Rattle.hm_run.specs.Words.{config_of}
use Rattle.hm_laws.specs.Answers.{Calls, IsReplied, IsResized}
use Rattle.hm_laws.specs.Light.{AnswersNoOverwrite}
use Rattle.hm_stats.specs.Tallies.{is_given}
use Rattle.hm_laws.specs.Replies.{is_usable}
use Rattle.hm_laws.specs.Steps.{Added, AreOfStep, calls_in}
use Rattle.hm_laws.proofs.Causes.{answers_have_causes}
use Rattle.hm_laws.proofs.Light.{tells_no_overwrite}
use Rattle.hm_laws.proofs.Moves.{nth}
use Rattle.hm_laws.proofs.Standing.{stands}

module _ {P : Type 0} (meaning : pages.Ghosts P) (o : Options) (closed : Closed P) (off : (config_of o).check_reuse ≡ false) (ends : AreEnds meaning o closed) (caller number : ℕ) (added : List Added)
    (of : AreOfStep closed.histories caller number added) (a place found : ℕ) where
  -- no call of the step was replied to so
  none_at : (calls : Calls) (n : ℕ) (call : Call) → calls_in added ≡ calls → slice_get calls n ≡ Some (call, Overwritten a place found) → ⊥
  none_at calls n call is here =
      let one = nth meaning o closed added calls n call (Overwritten a place found) is here in
      let s = stands meaning o closed caller number n added one.one ends of one.is in
      tells_no_overwrite meaning o closed one.one.index s.page s.before one.one.entry a place found s.begins off one.reply_is

  resized : (size base : ℕ) → IsResized base size (calls_in added) (Overwritten a place found) → ⊥
  resized size base (inl m) = true≢false (sym (ap is_given m.2))
  resized size base (inr (inl m)) = none_at ((Measure base, Overwritten a place found) ∷ []) 0 (Measure base) m.1 refl
  resized size base (inr (inr m)) = none_at ((Measure base, Usable m.1) ∷ (Allot size 1, Overwritten a place found) ∷ []) 1 (Allot size 1) m.2 refl

  pub none_told : (step : StepView) (base : ℕ) → IsReplied step base (calls_in added) (Overwritten a place found) → ⊥
  none_told (Size place) base (inl h) = true≢false (sym (ap is_usable h.2))
  none_told (Realloc name place size) base (inr (inr h)) = resized size base h.1
  none_told step base (inr (inl h)) = none_at ((h.0, Overwritten a place found) ∷ []) 0 h.0 h.2 refl
  none_told step base (inl h) = absurd h
  none_told step base (inr (inr h)) = absurd h

pub answers_no_overwrite : {P : Type 0} (meaning : pages.Ghosts P) (o : Options) (closed : Closed P) → AnswersNoOverwrite meaning o closed
answers_no_overwrite meaning o closed trace results scripts steps step base a place found replayed off at =
    let cause = answers_have_causes meaning o closed trace results scripts steps step base (Replied (Overwritten a place found)) replayed at in
    none_told meaning o closed off replayed.ends (scripts + 1) (steps + 1) cause.added cause.of_step a place found step base
    ((cause.exact (Replied (Overwritten a place found))).0 refl)
