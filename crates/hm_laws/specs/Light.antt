-- What holds of slots where reuse is not checked, as in the light configuration.
use Rattle.std.specs.Prelude.{◌≡◌, ℕ, ◌+◌, ◌<◌, false, if◌then◌else◌, is_some, List, [], ◌∷◌, ◌++◌, Option, Some}
use Rattle.hm_outside.specs.declared.pages.Pages as pages
use Rattle.hm_model.specs.declared.answer.Answer.TheVariants.{Reply as Replied}
use Rattle.hm_model.specs.declared.entry.Entry.{Entry}
use Rattle.hm_model.specs.declared.entry.Reply.TheVariants.{Overwritten}
use Rattle.hm_model.specs.Calls.{IsFreedAt}
use Rattle.hm_report.specs.declared.results.Results.{Results}
use Rattle.hm_sizes.specs.Shapes.{usable}
use Rattle.hm_trace.specs.Views.{StepView, TraceView}
use Rattle.hm_class_rules.specs.Bytes.{byte_at}
use Rattle.hm_class_rules.specs.Laws.{IsGivenAt}
use Rattle.hm_heap.specs.ClassRules as class
use Rattle.hm_heap.specs.declared.close.Closed.{Closed}
use Rattle.hm_run.specs.declared.words.Options.{Options}
use Rattle.hm_run.specs.Laws.{Begins, BeginsClass, class_rules}
use Rattle.hm_run.specs.Replayed.{IsReplayed}
use Rattle.hm_run.specs.Words.{config_of}
use Rattle.hm_laws.specs.Steps.{IsStepOf}

-- of the history at an index of a closed heap, and the pages there
module _ {P : Type 0} (meaning : pages.Ghosts P) (o : Options) (closed : Closed P) (index : ℕ) (p : P) where
  -- its byte at an address after these entries
  abbrev pub byte_then : List Entry → ℕ → Option ℕ
  byte_then entries q = byte_at (class_rules meaning o closed index p).shape
      (class.state (class_rules meaning o closed index p) entries) q

  -- where reuse is not checked, no entry tells an overwrite
  abbrev pub TellsNoOverwrite : Type 0
  TellsNoOverwrite = (before : List Entry) (e : Entry) (a offset found : ℕ)
      → Begins meaning o closed index p (before ++ e ∷ []) → (config_of o).check_reuse ≡ false
      → e.reply ≡ Overwritten a offset found → ⊥

  -- each usable byte of a given slot is as it was before: nothing is cleared as a slot is given. Only where a slab was
  -- opened for it, it is zero
  abbrev pub GivenAsLeft : Type 0
  GivenAsLeft = (before : List Entry) (given : Entry) (a k : ℕ)
      → BeginsClass meaning o closed index p (before ++ given ∷ []) → IsGivenAt given a
      → k < usable (class_rules meaning o closed index p).shape
      → byte_then (before ++ given ∷ []) (a + k)
      ≡ (if is_some given.choices.opened then Some 0 else byte_then before (a + k))

  -- and each usable byte of a slot is zero when it was freed, where its slab was not retired, and so has bytes
  abbrev pub FreedAsZero : Type 0
  FreedAsZero = (before : List Entry) (freed : Entry) (a k byte : ℕ)
      → BeginsClass meaning o closed index p (before ++ freed ∷ []) → IsFreedAt freed a
      → k < usable (class_rules meaning o closed index p).shape
      → byte_then (before ++ freed ∷ []) (a + k) ≡ Some byte → byte ≡ 0

-- ---- of the results of a run
-- where reuse is not checked, no step is answered that a slot was overwritten
abbrev pub AnswersNoOverwrite : {P : Type 0} → pages.Ghosts P → Options → Closed P → Type 0
AnswersNoOverwrite {P} meaning o closed = (trace : TraceView) (results : List Results) (scripts steps : ℕ)
    (step : StepView) (base a offset found : ℕ) → IsReplayed meaning o closed trace results
    → (config_of o).check_reuse ≡ false
    → IsStepOf trace results scripts steps step
    (record { base = base; answer = Some (Replied (Overwritten a offset found)) }) → ⊥
