-- Statuses 2 and 3 come exactly where the words are not accepted, and where the text has a first fault.
use Rattle.std.proofs.Common.{◌≡◌, ◌⊎◌, ℕ, ◌<◌, ◌≤◌, inl, inr, List, length, Option, Some, None, String, Global, refl, sym, ◌∙◌, ap, subst, arith}
use Rattle.std.proofs.lemmas.Option.{none-some}
use Rattle.hm_outside.specs.declared.pages.Pages as pages
use Rattle.hm_trace.specs.declared.fault.TraceFault.{TraceFault}
use Rattle.hm_trace.specs.Faults.{text_fault}
use Rattle.hm_run.specs.declared.refusal.Refusal.{Refusal}
use Rattle.hm_run.specs.declared.refusal.Refusal.TheVariants.{Usage, ReadFault, TooLong}
use Rattle.hm_run.specs.declared.run.Run.{Run}
use Rattle.hm_run.specs.declared.words.Asked.{Asked}
use Rattle.hm_run.specs.declared.words.Command.{Command}
use Rattle.hm_run.specs.declared.words.Command.TheVariants as command
use Rattle.hm_run.specs.declared.words.Options.{Options}
use Rattle.hm_run.specs.declared.words.Output.{Output}
use Rattle.hm_run.specs.Words.{AsksRun, asked_in}
use Rattle.hm_run.specs.Endings.{CommandEnds, Ends, EndsAsked, HasFirstFault, TellsRefusal, TellsVerdict, SourceEnds, TextEnds, IsRefused, status_of}
use Rattle.hm_run.specs.Streams.{Stream, MetFault, IsWritten}
use Rattle.hm_run.proofs.Completed.{Faultless, not_past, read_all}
use Rattle.hm_run.proofs.Exact.{planned_is, ran_not, judged_not}
use Rattle.hm_run.specs.Limits.{most_bytes}

not_five : (s : ℕ) → s ≤ 4 → s ≡ 5 → ⊥
not_five s most e = omega (arith, most, e)

abbrev HasFault : List ℕ → Type 0
HasFault bytes = (fault : TraceFault) × (text_fault bytes ≡ Some fault)

module _ {P : Type 0} (meaning : pages.Ghosts P) (run : Run P) (sink : Stream) where
  -- the status that is planned, where the sink does not fail
  sound_is : (planned : ℕ) (text : List ℕ) → (MetFault sink → ⊥) → IsWritten run.status planned sink text → run.status ≡ planned
  sound_is planned text sound (inl w) = w.0
  sound_is planned text sound (inr w) = absurd (sound w.1)

  -- ---- what a refusal is told by
  told_is : (refusal : Refusal) (s : ℕ) → (s ≡ 5 → ⊥) → TellsRefusal meaning run sink refusal → run.status ≡ s → status_of refusal ≡ s
  told_is refusal s other tells e = planned_is run.status (status_of refusal) s sink _ tells.written other e

  module _ (source : Stream) where
    -- a refused source is not told by 2 or 3
    refused_not : (refusal : Refusal) (s : ℕ) → IsRefused refusal source → TellsRefusal meaning run sink refusal → s ≤ 3 → run.status ≡ s → ⊥
    refused_not Usage s cause tells most e = cause
    refused_not ReadFault s cause tells most e =
        omega (arith, told_is ReadFault s (not_five s (omega (arith, most))) tells e, most)
    refused_not TooLong s cause tells most e =
        omega (arith, told_is TooLong s (not_five s (omega (arith, most))) tells e, most)

    source_not : (Ended : List ℕ → Type 0) (s : ℕ) → s ≤ 3 → ((bytes : List ℕ) → Ended bytes → run.status ≡ s → ⊥)
        → SourceEnds meaning run sink source Ended → run.status ≡ s → ⊥
    source_not Ended s most other (inl read) e = other read.bytes read.ends e
    source_not Ended s most other (inr ended) e = refused_not ended.refusal s ended.cause ended.tells most e

    -- a verdict is not told by 2 or 3
    judged_other : (bytes : List ℕ) (s : ℕ) → 1 < s → s ≤ 3 → TellsVerdict meaning run sink bytes → run.status ≡ s → ⊥
    judged_other bytes s more most tells e =
        judged_not meaning run sink bytes s tells more (not_five s (omega (arith, most))) e

    -- ---- 2
    text_not_two : (o : Options) (output : Output) (bytes : List ℕ) → TextEnds meaning run sink o output bytes → run.status ≡ 2 → ⊥
    text_not_two o output bytes (inl ran) e = ran_not meaning run sink o _ _ 2 ran.runs (omega arith) (not_five 2 (omega arith)) e
    text_not_two o output bytes (inr faulty) e =
        omega (arith, planned_is run.status 3 2 sink _ faulty.written (not_five 2 (omega arith)) e)

    command_not_two : (o : Options) (wanted : Command) → CommandEnds meaning run sink source o wanted → run.status ≡ 2 → ⊥
    command_not_two o (command.Run output) ends e = source_not _ 2 (omega arith) (text_not_two o output) ends e
    command_not_two o command.Check ends e = source_not _ 2 (omega arith) (λ bytes. judged_other bytes 2 (omega arith) (omega arith)) ends e
    command_not_two o (command.Stress seed) ran e = ran_not meaning run sink o _ _ 2 ran (omega arith) (not_five 2 (omega arith)) e

    unaccepted_in : (asked : Option Asked) → EndsAsked meaning run sink source asked → run.status ≡ 2 → asked ≡ None
    unaccepted_in None tells e = refl
    unaccepted_in (Some asked) (inl done) e = absurd (command_not_two asked.options asked.command done e)
    unaccepted_in (Some asked) (inr none) e = absurd (omega (arith, none.0.status_is, e))

    pub only_unaccepted : (words : List (String Global)) → Ends meaning words run source sink → run.status ≡ 2 → asked_in words ≡ None
    only_unaccepted words ends e = unaccepted_in (asked_in words) ends.1 e

    pub unaccepted_told : (words : List (String Global)) → Ends meaning words run source sink → asked_in words ≡ None
        → (MetFault sink → ⊥) → run.status ≡ 2
    unaccepted_told words ends none sound =
        sound_is 2 _ sound (subst (λ (o : Option Asked). EndsAsked meaning run sink source o) none ends.1).written

    -- ---- 3
    text_only : (o : Options) (output : Output) (bytes : List ℕ) → TextEnds meaning run sink o output bytes → run.status ≡ 3 → HasFault bytes
    text_only o output bytes (inl ran) e = absurd (ran_not meaning run sink o _ _ 3 ran.runs (omega arith) (not_five 3 (omega arith)) e)
    text_only o output bytes (inr faulty) e = (faulty.fault, faulty.first)

    source_only : (Ended : List ℕ → Type 0) → ((bytes : List ℕ) → Ended bytes → run.status ≡ 3 → HasFault bytes)
        → SourceEnds meaning run sink source Ended → run.status ≡ 3 → HasFirstFault source
    source_only Ended only (inl read) e =
        let at = only read.bytes read.ends e in
        record { bytes = read.bytes; read = read.read; within = read.within; fault = at.0; first = at.1 }
    source_only Ended only (inr ended) e = absurd (refused_not ended.refusal 3 ended.cause ended.tells (omega arith) e)

    command_only : (words : List (String Global)) (o : Options) (wanted : Command)
        → asked_in words ≡ Some (record { command = wanted; options = o }) → CommandEnds meaning run sink source o wanted
        → run.status ≡ 3 → AsksRun words × HasFirstFault source
    command_only words o (command.Run output) is ends e = ((o, output, is), source_only _ (text_only o output) ends e)
    command_only words o command.Check is ends e =
        absurd (source_not _ 3 (omega arith) (λ bytes. judged_other bytes 3 (omega arith) (omega arith)) ends e)
    command_only words o (command.Stress seed) is ran e =
        absurd (ran_not meaning run sink o _ _ 3 ran (omega arith) (not_five 3 (omega arith)) e)

    asked_only : (words : List (String Global)) (asked : Option Asked) → asked_in words ≡ asked
        → EndsAsked meaning run sink source asked → run.status ≡ 3 → AsksRun words × HasFirstFault source
    asked_only words None is tells e = absurd (omega (arith, told_is Usage 3 (not_five 3 (omega arith)) tells e))
    asked_only words (Some asked) is (inl done) e = command_only words asked.options asked.command is done e
    asked_only words (Some asked) is (inr none) e = absurd (omega (arith, none.0.status_is, e))

    pub only_faulty : (words : List (String Global)) → Ends meaning words run source sink → run.status ≡ 3
        → AsksRun words × HasFirstFault source
    only_faulty words ends e = asked_only words (asked_in words) refl ends.1 e

    -- with no fault of the source or the sink
    module _ (faultless : Faultless) (bytes : List ℕ) (fault : TraceFault) (before : source.before ≡ Some bytes) (short : length bytes ≤ most_bytes)
        (first : text_fault bytes ≡ Some fault) (whole : MetFault source → ⊥) (sound : MetFault sink → ⊥) where
      text_told : (o : Options) (output : Output) (read : List ℕ) → read ≡ bytes → TextEnds meaning run sink o output read → run.status ≡ 3
      text_told o output read is (inl ran) =
          absurd (none-some fault (sym (faultless ran.trace ran.is_trace) ∙ ap text_fault (sym ran.text ∙ is) ∙ first))
      text_told o output read is (inr faulty) = sound_is 3 _ sound faulty.written

      refused_absurd : (refusal : Refusal) → IsRefused refusal source → ⊥
      refused_absurd Usage cause = cause
      refused_absurd ReadFault cause = whole cause.0
      refused_absurd TooLong cause = not_past source bytes before short cause.0

      source_told : (Ended : List ℕ → Type 0) → ((read : List ℕ) → read ≡ bytes → Ended read → run.status ≡ 3)
          → SourceEnds meaning run sink source Ended → run.status ≡ 3
      source_told Ended told (inl read) = told read.bytes (read_all source bytes read.bytes before read.read) read.ends
      source_told Ended told (inr ended) = absurd (refused_absurd ended.refusal ended.cause)

      pub faulty_told : (words : List (String Global)) → Ends meaning words run source sink → AsksRun words
          → (run.status ≡ 3) ⊎ (run.status ≡ 6)
      faulty_told words ends asks = by_end (subst (λ (o : Option Asked). EndsAsked meaning run sink source o) asks.2 ends.1)
        where
          by_end : EndsAsked meaning run sink source (Some (record { command = command.Run asks.1; options = asks.0 })) → (run.status ≡ 3) ⊎ (run.status ≡ 6)
          by_end (inl done) = inl (source_told _ (text_told asks.0 asks.1) done)
          by_end (inr none) = inr none.0.status_is
