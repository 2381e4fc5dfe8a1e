-- Status 7 comes exactly where more bytes are taken than may be.
use Rattle.std.proofs.Common.{◌≡◌, ◌⊎◌, ℕ, ◌<◌, Bool, true, false, cond, inl, inr, List, length, Option, Some, None, String, Global, refl, sym, ◌∙◌, ap, subst, arith}
use Rattle.hm_outside.specs.declared.pages.Pages as pages
use Rattle.hm_report.specs.declared.results.Results.{Results}
use Rattle.hm_report.specs.Findings.{has_finding}
use Rattle.hm_trace.specs.Views.{TraceView}
use Rattle.hm_heap.specs.declared.close.Closed.{Closed}
use Rattle.hm_run.specs.declared.refusal.Refusal.{Refusal}
use Rattle.hm_run.specs.declared.refusal.Refusal.TheVariants.{Usage, ReadFault, TooLong}
use Rattle.hm_run.specs.declared.run.Run.{Run}
use Rattle.hm_run.specs.declared.words.Asked.{Asked}
use Rattle.hm_run.specs.declared.words.Command.{Command}
use Rattle.hm_run.specs.declared.words.Command.TheVariants as command
use Rattle.hm_run.specs.declared.words.Options.{Options}
use Rattle.hm_run.specs.declared.words.Output.{Output}
use Rattle.hm_run.specs.Words.{AsksSource, asked_in}
use Rattle.hm_run.specs.Endings.{CommandEnds, Ends, EndsAsked, RunsTrace, SourceEnds, TellsVerdict, TextEnds, IsRefused, status_of, status_after}
use Rattle.hm_run.specs.Streams.{Stream, MetFault, IsTakenPast, IsWritten}
use Rattle.hm_run.proofs.Completed.{read_all}
use Rattle.hm_run.proofs.Exact.{judged_not}
use Rattle.hm_run.specs.Limits.{most_bytes}

-- a status that is not 5 is the one planned
planned_is : (status planned : ℕ) (sink : Stream) (text : List ℕ) → IsWritten status planned sink text → status ≡ 7 → planned ≡ 7
planned_is status planned sink text (inl w) e = sym w.0 ∙ e
planned_is status planned sink text (inr w) e = absurd (omega (arith, w.0, e))

finding_not : (b : Bool) (n : ℕ) → n ≡ cond b 1 0 → n ≡ 7 → ⊥
finding_not true n is e = omega (arith, is, e)
finding_not false n is e = omega (arith, is, e)

refused_past : (refusal : Refusal) (source : Stream) → IsRefused refusal source → status_of refusal ≡ 7 → IsTakenPast most_bytes source
refused_past Usage source cause e = absurd cause
refused_past ReadFault source cause e = absurd (omega (arith, e))
refused_past TooLong source cause e = cause.0

module _ {P : Type 0} (meaning : pages.Ghosts P) (run : Run P) (sink : Stream) where
  ran_not : (o : Options) (trace : TraceView) (text_of : Closed P → List Results → List ℕ)
      → RunsTrace meaning run sink o trace text_of → run.status ≡ 7 → ⊥
  ran_not o trace text_of ran e =
      finding_not (has_finding ran.results) (status_after ran.results) refl (planned_is run.status (status_after ran.results) sink _ ran.written e)

  text_not : (o : Options) (output : Output) (bytes : List ℕ) → TextEnds meaning run sink o output bytes → run.status ≡ 7 → ⊥
  text_not o output bytes (inl ran) e = ran_not o _ _ ran.runs e
  text_not o output bytes (inr faulty) e = omega (arith, planned_is run.status 3 sink _ faulty.written e)

  judged_not_seven : (bytes : List ℕ) → TellsVerdict meaning run sink bytes → run.status ≡ 7 → ⊥
  judged_not_seven bytes tells e = judged_not meaning run sink bytes 7 tells (omega arith) (λ five. omega (arith, five)) e

  module _ (source : Stream) where
    source_past : (Ended : List ℕ → Type 0) → ((bytes : List ℕ) → Ended bytes → run.status ≡ 7 → ⊥)
        → SourceEnds meaning run sink source Ended → run.status ≡ 7 → IsTakenPast most_bytes source
    source_past Ended not (inl read) e = absurd (not read.bytes read.ends e)
    source_past Ended not (inr ended) e =
        refused_past ended.refusal source ended.cause (planned_is run.status (status_of ended.refusal) sink _ ended.tells.written e)

    command_past : (o : Options) (command : Command) → CommandEnds meaning run sink source o command → run.status ≡ 7 → IsTakenPast most_bytes source
    command_past o (command.Run output) ends e = source_past _ (text_not o output) ends e
    command_past o command.Check ends e = source_past _ judged_not_seven ends e
    command_past o (command.Stress seed) ran e = absurd (ran_not o _ _ ran e)

    pub only_past : (asked : Option Asked) → EndsAsked meaning run sink source asked → run.status ≡ 7 → IsTakenPast most_bytes source
    only_past None tells e = absurd (omega (arith, planned_is run.status 2 sink _ tells.written e))
    only_past (Some asked) (inl done) e = command_past asked.options asked.command done e
    only_past (Some asked) (inr none) e = absurd (omega (arith, none.0.status_is, e))

    -- with no fault of the source or the sink
    module _ (bytes : List ℕ) (before : source.before ≡ Some bytes) (long : most_bytes < length bytes) (whole : MetFault source → ⊥) (sound : MetFault sink → ⊥) where
      refused_long : (refusal : Refusal) (text : List ℕ)
          → IsRefused refusal source → IsWritten run.status (status_of refusal) sink text → run.status ≡ 7
      refused_long refusal text cause (inr w) = absurd (sound w.1)
      refused_long Usage text cause (inl w) = absurd cause
      refused_long ReadFault text cause (inl w) = absurd (whole cause.0)
      refused_long TooLong text cause (inl w) = w.0

      source_long : (Ended : List ℕ → Type 0) → SourceEnds meaning run sink source Ended → run.status ≡ 7
      source_long Ended (inl read) = absurd (omega (arith, ap (λ (l : List ℕ). length l) (read_all source bytes read.bytes before read.read), read.within, long))
      source_long Ended (inr ended) = refused_long ended.refusal _ ended.cause ended.tells.written

      asked_long : (words : List (String Global)) (asked : Asked)
          → (CommandEnds meaning run sink source asked.options asked.command → run.status ≡ 7)
          → Ends meaning words run source sink → asked_in words ≡ Some asked → (run.status ≡ 7) ⊎ (run.status ≡ 6)
      asked_long words asked told ends asks = by_end (subst (λ (o : Option Asked). EndsAsked meaning run sink source o) asks ends.1)
        where
          by_end : EndsAsked meaning run sink source (Some asked) → (run.status ≡ 7) ⊎ (run.status ≡ 6)
          by_end (inl done) = inl (told done)
          by_end (inr none) = inr none.0.status_is

      pub long_refused : (words : List (String Global)) → Ends meaning words run source sink → AsksSource words → (run.status ≡ 7) ⊎ (run.status ≡ 6)
      long_refused words ends (inl asks) =
          asked_long words (record { command = command.Run asks.1; options = asks.0 }) (λ done. source_long _ done) ends asks.2
      long_refused words ends (inr asks) =
          asked_long words (record { command = command.Check; options = asks.0 }) (λ done. source_long _ done) ends asks.1
