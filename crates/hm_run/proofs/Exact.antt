-- Statuses 4 and 5 come exactly where the source and the sink failed.
use Rattle.std.proofs.Common.{◌≡◌, ◌⊎◌, ℕ, ◌<◌, Bool, true, false, cond, inl, inr, List, Option, Some, None, String, Global, refl, sym, ◌∙◌, arith}
use Rattle.hm_outside.specs.declared.pages.Pages as pages
use Rattle.hm_report.specs.declared.results.Results.{Results}
use Rattle.hm_report.specs.Findings.{has_finding}
use Rattle.hm_trace.specs.Views.{TraceView}
use Rattle.hm_heap.specs.declared.close.Closed.{Closed}
use Rattle.hm_check.specs.declared.verdict.Verdict.{Verdict}
use Rattle.hm_check.specs.declared.verdict.Verdict.TheVariants.{Yes, No}
use Rattle.hm_run.specs.declared.refusal.Refusal.{Refusal}
use Rattle.hm_run.specs.declared.refusal.Refusal.TheVariants.{Usage, ReadFault, TooLong}
use Rattle.hm_run.specs.declared.run.Run.{Run}
use Rattle.hm_run.specs.declared.words.Asked.{Asked}
use Rattle.hm_run.specs.declared.words.Command.{Command}
use Rattle.hm_run.specs.declared.words.Command.TheVariants as command
use Rattle.hm_run.specs.declared.words.Options.{Options}
use Rattle.hm_run.specs.declared.words.Output.{Output}
use Rattle.hm_run.specs.Words.{IfMade, IfUnasked, asked_in}
use Rattle.hm_run.specs.Endings.{CommandEnds, Ends, EndsAsked, RunsTrace, LacksMemory, TellsRefusal, TellsVerdict, SourceEnds, TextEnds, IsRefused, status_after}
use Rattle.hm_run.specs.Streams.{Stream, MetFault, IsSound, IsUntaken, IsWritten}
use Rattle.hm_run.specs.Verdicts.{status_told}

-- a status that is not 5 is the one planned
pub planned_is : (status planned s : ℕ) (sink : Stream) (text : List ℕ) → IsWritten status planned sink text → (s ≡ 5 → ⊥)
    → status ≡ s → planned ≡ s
planned_is status planned s sink text (inl w) other e = sym w.0 ∙ e
planned_is status planned s sink text (inr w) other e = absurd (other (sym e ∙ w.0))

-- what is planned after a trace was run is no other status than 0 and 1
pub not_planned : (b : Bool) (n s : ℕ) → n ≡ cond b 1 0 → 1 < s → n ≡ s → ⊥
not_planned true n s is more e = omega (arith, is, more, e)
not_planned false n s is more e = omega (arith, is, more, e)

-- what is planned for a verdict is no other status than 0 and 1
told_not : (v : Verdict) (s : ℕ) → 1 < s → status_told v ≡ s → ⊥
told_not (Yes entries) s more e = omega (arith, more, e)
told_not (No line fault) s more e = omega (arith, more, e)

-- 5 comes only where the sink failed, and where its count is not as before
abbrev ShowsSink : ℕ → Stream → Type 0
ShowsSink status sink = (status ≡ 5 → MetFault sink) × ((IsSound sink → ⊥) → status ≡ 5)

-- 4 comes only where the source failed, and where its count is not as before, unless the sink failed
abbrev ShowsSource : ℕ → Stream → Type 0
ShowsSource status source = (status ≡ 4 → MetFault source) × ((IsSound source → ⊥) → (status ≡ 4) ⊎ (status ≡ 5))

written_shows : (status planned : ℕ) (sink : Stream) (text : List ℕ) → IsWritten status planned sink text → (planned ≡ 5 → ⊥)
    → ShowsSink status sink
written_shows status planned sink text (inl w) other = (λ e. absurd (other (sym w.0 ∙ e)), λ unsound. absurd (unsound w.1))
written_shows status planned sink text (inr w) other = (λ e. w.1, λ unsound. w.0)

module _ {P : Type 0} (meaning : pages.Ghosts P) (run : Run P) (sink : Stream) where
  pub ran_not : (o : Options) (trace : TraceView) (text_of : Closed P → List Results → List ℕ) (s : ℕ)
      → RunsTrace meaning run sink o trace text_of → 1 < s → (s ≡ 5 → ⊥) → run.status ≡ s → ⊥
  ran_not o trace text_of s ran more other e =
      not_planned (has_finding ran.results) (status_after ran.results) s refl more
      (planned_is run.status (status_after ran.results) s sink _ ran.written other e)

  pub judged_not : (bytes : List ℕ) (s : ℕ) → TellsVerdict meaning run sink bytes → 1 < s → (s ≡ 5 → ⊥) → run.status ≡ s → ⊥
  judged_not bytes s tells more other e =
      told_not tells.verdict s more (planned_is run.status (status_told tells.verdict) s sink _ tells.written other e)

  -- ---- the sink
  lacking_shows : LacksMemory meaning run sink → ShowsSink run.status sink
  lacking_shows none = (λ e. absurd (omega (arith, none.status_is, e)), λ unsound. absurd (unsound none.sound))

  ran_shows : (o : Options) (trace : TraceView) (text_of : Closed P → List Results → List ℕ)
      → RunsTrace meaning run sink o trace text_of → ShowsSink run.status sink
  ran_shows o trace text_of ran =
      written_shows run.status (status_after ran.results) sink _ ran.written
      (λ e. not_planned (has_finding ran.results) (status_after ran.results) 5 refl (omega arith) e)

  text_shows : (o : Options) (output : Output) (bytes : List ℕ) → TextEnds meaning run sink o output bytes → ShowsSink run.status sink
  text_shows o output bytes (inl ran) = ran_shows o _ _ ran.runs
  text_shows o output bytes (inr faulty) = written_shows run.status 3 sink _ faulty.written (λ e. omega (arith, e))

  judged_shows : (bytes : List ℕ) → TellsVerdict meaning run sink bytes → ShowsSink run.status sink
  judged_shows bytes tells =
      written_shows run.status (status_told tells.verdict) sink _ tells.written (λ e. told_not tells.verdict 5 (omega arith) e)

  told_shows : (refusal : Refusal) → TellsRefusal meaning run sink refusal → ShowsSink run.status sink
  told_shows Usage tells = written_shows run.status 2 sink _ tells.written (λ e. omega (arith, e))
  told_shows ReadFault tells = written_shows run.status 4 sink _ tells.written (λ e. omega (arith, e))
  told_shows TooLong tells = written_shows run.status 7 sink _ tells.written (λ e. omega (arith, e))

  module _ (source : Stream) where
    source_shows_sink : (Ended : List ℕ → Type 0) → ((bytes : List ℕ) → Ended bytes → ShowsSink run.status sink)
        → SourceEnds meaning run sink source Ended → ShowsSink run.status sink
    source_shows_sink Ended shows (inl read) = shows read.bytes read.ends
    source_shows_sink Ended shows (inr ended) = told_shows ended.refusal ended.tells

    command_shows_sink : (o : Options) (wanted : Command) → CommandEnds meaning run sink source o wanted → ShowsSink run.status sink
    command_shows_sink o (command.Run output) ends = source_shows_sink _ (text_shows o output) ends
    command_shows_sink o command.Check ends = source_shows_sink _ judged_shows ends
    command_shows_sink o (command.Stress seed) ran = ran_shows o _ _ ran

    asked_shows_sink : (asked : Option Asked) → EndsAsked meaning run sink source asked → ShowsSink run.status sink
    asked_shows_sink None tells = told_shows Usage tells
    asked_shows_sink (Some asked) (inl done) = command_shows_sink asked.options asked.command done
    asked_shows_sink (Some asked) (inr none) = lacking_shows none.0

    pub shows_sink : (words : List (String Global)) → Ends meaning words run source sink → ShowsSink run.status sink
    shows_sink words ends = asked_shows_sink (asked_in words) ends.1

    -- ---- the source
    -- it is sound, and the status is not 4
    sound_shows : IsSound source → (run.status ≡ 4 → ⊥) → ShowsSource run.status source
    sound_shows sound other = (λ e. absurd (other e), λ unsound. absurd (unsound sound))

    text_not : (o : Options) (output : Output) (bytes : List ℕ) → TextEnds meaning run sink o output bytes → run.status ≡ 4 → ⊥
    text_not o output bytes (inl ran) e = ran_not o _ _ 4 ran.runs (omega arith) (λ five. omega (arith, five)) e
    text_not o output bytes (inr faulty) e =
        omega (arith, planned_is run.status 3 4 sink _ faulty.written (λ five. omega (arith, five)) e)

    read_fault_shows : (text : List ℕ) → MetFault source → IsWritten run.status 4 sink text → ShowsSource run.status source
    read_fault_shows text failed (inl w) = (λ e. failed, λ unsound. inl w.0)
    read_fault_shows text failed (inr w) = (λ e. failed, λ unsound. inr w.0)

    refused_shows : (refusal : Refusal) → IsRefused refusal source → TellsRefusal meaning run sink refusal → ShowsSource run.status source
    refused_shows Usage cause tells = absurd cause
    refused_shows ReadFault cause tells = read_fault_shows _ cause.0 tells.written
    refused_shows TooLong cause tells =
        sound_shows cause.1 (λ e. omega (arith, planned_is run.status 7 4 sink _ tells.written (λ five. omega (arith, five)) e))

    source_shows : (Ended : List ℕ → Type 0) → ((bytes : List ℕ) → Ended bytes → run.status ≡ 4 → ⊥)
        → SourceEnds meaning run sink source Ended → ShowsSource run.status source
    source_shows Ended other (inl read) = sound_shows read.sound (other read.bytes read.ends)
    source_shows Ended other (inr ended) = refused_shows ended.refusal ended.cause ended.tells

    command_shows : (o : Options) (wanted : Command) → IfMade wanted (IsUntaken source)
        → CommandEnds meaning run sink source o wanted → ShowsSource run.status source
    command_shows o (command.Run output) untaken ends = source_shows _ (text_not o output) ends
    command_shows o command.Check untaken ends =
        source_shows _ (λ bytes tells. judged_not bytes 4 tells (omega arith) (λ five. omega (arith, five))) ends
    command_shows o (command.Stress seed) untaken ran =
        sound_shows untaken.1 (ran_not o _ _ 4 ran (omega arith) (λ five. omega (arith, five)))

    asked_shows : (asked : Option Asked) → IfUnasked asked (IsUntaken source)
        → EndsAsked meaning run sink source asked → ShowsSource run.status source
    asked_shows None untaken tells =
        sound_shows untaken.1 (λ e. omega (arith, planned_is run.status 2 4 sink _ tells.written (λ five. omega (arith, five)) e))
    asked_shows (Some asked) untaken (inl done) = command_shows asked.options asked.command untaken done
    asked_shows (Some asked) untaken (inr none) = sound_shows none.1 (λ e. omega (arith, none.0.status_is, e))

    pub shows_source : (words : List (String Global)) → Ends meaning words run source sink → ShowsSource run.status source
    shows_source words ends = asked_shows (asked_in words) ends.0 ends.1
