-- A trace is run.
use Rattle.std.proofs.Common.{◌≡◌, ◌⊎◌, ℕ, ◌≤◌, Bool, true, false, cond, inl, inr, List, ◌++◌, length, Option, Some, None, String, Global, sym, ◌∙◌, ap, subst, arith, append-nil, length-append}
use Rattle.std.proofs.lemmas.Option.{none-some}
use Rattle.hm_outside.specs.declared.pages.Pages as pages
use Rattle.hm_outside.specs.Streams.{Taken, IsEmptied}
use Rattle.hm_trace.specs.Faults.{text_fault}
use Rattle.hm_trace.specs.Spelling.{spelling}
use Rattle.hm_trace.specs.Traces.{IsTrace}
use Rattle.hm_trace.specs.Views.{TraceView}
use Rattle.hm_report.specs.declared.results.Results.{Results}
use Rattle.hm_report.specs.Findings.{has_finding}
use Rattle.hm_heap.specs.declared.close.Closed.{Closed}
use Rattle.hm_run.specs.declared.refusal.Refusal.{Refusal}
use Rattle.hm_run.specs.declared.refusal.Refusal.TheVariants.{Usage, ReadFault, TooLong}
use Rattle.hm_run.specs.declared.run.Run.{Run}
use Rattle.hm_run.specs.declared.words.Asked.{Asked}
use Rattle.hm_run.specs.declared.words.Command.TheVariants as command
use Rattle.hm_run.specs.declared.words.Options.{Options}
use Rattle.hm_run.specs.declared.words.Output.{Output}
use Rattle.hm_run.specs.Words.{AsksRun, AsksStress, asked_in}
use Rattle.hm_run.specs.Endings.{CommandEnds, Ends, EndsAsked, RunsTrace, SourceEnds, TextEnds, IsRefused, status_after}
use Rattle.hm_run.specs.Streams.{Stream, MetFault, IsReadToEnd, IsTakenPast, IsWritten}
use Rattle.hm_run.specs.Limits.{most_bytes}

abbrev pub EndsWell : ℕ → Type 0
EndsWell status = (status ≡ 0) ⊎ (status ≡ 1) ⊎ (status ≡ 6)

-- what was read to its end is what was left
pub read_all : (source : Stream) (bytes read : List ℕ) → source.before ≡ Some bytes → IsReadToEnd source read → read ≡ bytes
read_all source bytes read before h =
    by_rest source.after (subst (λ (o : Option (List ℕ)). Taken o source.after read) before h.0) h.1
  where
    by_rest : (after : Option (List ℕ)) → Taken (Some bytes) after read → IsEmptied after → read ≡ bytes
    by_rest None taken emptied = absurd taken
    by_rest (Some rest) taken emptied = sym (taken ∙ ap (λ (l : List ℕ). read ++ l) emptied ∙ append-nil read)

-- not more than what was left is taken
pub not_past : (source : Stream) (bytes : List ℕ) → source.before ≡ Some bytes → length bytes ≤ most_bytes → IsTakenPast most_bytes source → ⊥
not_past source bytes before short past =
    by_rest source.after (subst (λ (o : Option (List ℕ)). Taken o source.after past.0) before past.1)
  where
    by_rest : (after : Option (List ℕ)) → Taken (Some bytes) after past.0 → ⊥
    by_rest None taken = taken
    by_rest (Some rest) taken = omega (arith, past.2, short, ap (λ (l : List ℕ). length l) taken, length-append past.0 rest)

finding_or_none : (b : Bool) (status : ℕ) → status ≡ cond b 1 0 → EndsWell status
finding_or_none true status e = inr (inl e)
finding_or_none false status e = inl e

pub refused : (refusal : Refusal) (source : Stream) (bytes : List ℕ) → source.before ≡ Some bytes
    → length bytes ≤ most_bytes → (MetFault source → ⊥) → IsRefused refusal source → ⊥
refused Usage source bytes before short sound cause = cause
refused ReadFault source bytes before short sound cause = sound cause.0
refused TooLong source bytes before short sound cause = not_past source bytes before short cause.0

-- the laws of spellings that are needed
abbrev pub Faultless : Type 0
Faultless = (trace : TraceView) → IsTrace trace → text_fault (spelling trace) ≡ None

abbrev pub Short : Type 0
Short = (trace : TraceView) → IsTrace trace → length (spelling trace) ≤ most_bytes

module _ {P : Type 0} (meaning : pages.Ghosts P) (run : Run P) (sink : Stream) (sound : MetFault sink → ⊥) where
  ran_well : (o : Options) (trace : TraceView) (text_of : Closed P → List Results → List ℕ)
      → RunsTrace meaning run sink o trace text_of → EndsWell run.status
  ran_well o trace text_of ran = by_writing ran.results ran.written
    where
      by_writing : (results : List Results) → IsWritten run.status (status_after results) sink (text_of ran.left results) → EndsWell run.status
      by_writing results (inl w) = finding_or_none (has_finding results) run.status w.0
      by_writing results (inr w) = absurd (sound w.1)

  -- as the words ask, or for want of memory
  asked_well : (source : Stream) (words : List (String Global)) (asked : Asked)
      → (CommandEnds meaning run sink source asked.options asked.command → EndsWell run.status)
      → Ends meaning words run source sink → asked_in words ≡ Some asked → EndsWell run.status
  asked_well source words asked well ends asks =
      by_end (subst (λ (o : Option Asked). EndsAsked meaning run sink source o) asks ends.1)
    where
      by_end : EndsAsked meaning run sink source (Some asked) → EndsWell run.status
      by_end (inl done) = well done
      by_end (inr none) = inr (inr none.0.status_is)

  pub complete_stress : (source : Stream) (words : List (String Global))
      → Ends meaning words run source sink → AsksStress words → EndsWell run.status
  complete_stress source words ends asks =
      asked_well source words (record { command = command.Stress asks.1; options = asks.0 }) (λ ran. ran_well asks.0 _ _ ran) ends asks.2

  module _ (faultless : Faultless) (short : Short) (trace : TraceView) (is : IsTrace trace) where
    text_well : (o : Options) (output : Output) (bytes : List ℕ)
        → bytes ≡ spelling trace → TextEnds meaning run sink o output bytes → EndsWell run.status
    text_well o output bytes spelled (inl ran) = ran_well o _ _ ran.runs
    text_well o output bytes spelled (inr faulty) = absurd (none-some faulty.fault (sym (ap text_fault spelled ∙ faultless trace is) ∙ faulty.first))

    module _ (source : Stream) (before : source.before ≡ Some (spelling trace)) (whole : MetFault source → ⊥) where
      source_well : (Ended : List ℕ → Type 0) → ((bytes : List ℕ) → bytes ≡ spelling trace → Ended bytes → EndsWell run.status)
          → SourceEnds meaning run sink source Ended → EndsWell run.status
      source_well Ended well (inl read) = well read.bytes (read_all source (spelling trace) read.bytes before read.read) read.ends
      source_well Ended well (inr ended) = absurd (refused ended.refusal source (spelling trace) before (short trace is) whole ended.cause)

      pub complete : (words : List (String Global)) → Ends meaning words run source sink → AsksRun words → EndsWell run.status
      complete words ends asks =
          asked_well source words (record { command = command.Run asks.1; options = asks.0 })
          (source_well (TextEnds meaning run sink asks.0 asks.1) (text_well asks.0 asks.1)) ends asks.2
