-- The status of a trace that was run is told by its results, by the report that was written, and by the histories.
use Rattle.std.proofs.Common.{◌≡◌, ℕ, Bool, true, false, cond, ◌||◌, inl, inr, List, ◌++◌, Option, Some, None, String, Global, refl, sym, ◌∙◌, ap, subst, arith, true≢false}
use Rattle.std.specs.Prelude.{unwrap_or}
use Rattle.std.proofs.lemmas.List.{append_cancel_left}
use Rattle.std.proofs.lemmas.Option.{none-some}
use Rattle.hm_outside.specs.declared.pages.Pages as pages
use Rattle.hm_outside.specs.Streams.{Put}
use Rattle.hm_report.specs.declared.results.Results.{Results}
use Rattle.hm_report.specs.Findings.{has_finding}
use Rattle.hm_report.specs.Marks.{tells_finding, FindingsShow}
use Rattle.hm_trace.specs.Views.{TraceView, scripts_of}
use Rattle.hm_heap.specs.declared.close.Closed.{Closed}
use Rattle.hm_run.specs.declared.run.Run.{Run}
use Rattle.hm_run.specs.declared.words.Asked.{Asked}
use Rattle.hm_run.specs.declared.words.Command.{Command}
use Rattle.hm_run.specs.declared.words.Command.TheVariants as command
use Rattle.hm_run.specs.declared.words.Options.{Options}
use Rattle.hm_run.specs.declared.words.Output.{Output}
use Rattle.hm_run.specs.declared.words.Output.TheVariants.{Report}
use Rattle.hm_run.specs.Words.{AsksReport, asked_in, config_of}
use Rattle.hm_run.specs.Endings.{CommandEnds, Ends, EndsAsked, RunsTrace, RunsText, SourceEnds, TextEnds, notes_in, status_after}
use Rattle.hm_run.specs.Findings.{counts_finding, has_own_finding}
use Rattle.hm_run.specs.Statuses.{Says}
use Rattle.hm_run.specs.Streams.{Stream, MetFault, IsWritten}
use Rattle.hm_run.proofs.EntryFindings.{findings_counted}
use Rattle.hm_run.proofs.NoteLines.{trace_lines}

-- the status that is planned says it
says : (status : ℕ) (found : Bool) → status ≡ cond found 1 0 → Says status found
says status true is = record {
  finding = (λ e. refl, λ e. is);
  clean = (λ e. absurd (omega (arith, is, e)), λ e. absurd (true≢false e));
}
says status false is = record {
  finding = (λ e. absurd (omega (arith, is, e)), λ e. absurd (true≢false (sym e)));
  clean = (λ e. refl, λ e. is);
}

same_some : {A : Type 0} (a b : A) → Some a ≡ Some b → a ≡ b
same_some a b e = ap (λ o. unwrap_or o a) e

-- what was put is the text by which a sink holds more
put_is : (before after : Option (List ℕ)) (held text put : List ℕ) → before ≡ Some held → after ≡ Some (held ++ text)
    → Put before after put → text ≡ put
put_is before after held text put old new puts =
    append_cancel_left held text put
    (subst (λ (o : Option (List ℕ)). Put (Some held) o put) new (subst (λ (o : Option (List ℕ)). Put o after put) old puts))

module _ {P : Type 0} (meaning : pages.Ghosts P) (run : Run P) (source sink : Stream) (sound : MetFault sink → ⊥)
    (results : List Results) (has : run.results ≡ Some results) where
  -- what was planned was written
  wrote : (status planned : ℕ) (text : List ℕ) → IsWritten status planned sink text
      → (status ≡ planned) × Put sink.before sink.after text
  wrote status planned text (inl w) = (w.0, w.2)
  wrote status planned text (inr w) = absurd (sound w.1)

  -- a run without results is no such run
  none : {G : Type 0} → run.results ≡ None → G
  none e = absurd (none-some results (sym e ∙ has))

  -- what is so of each trace that was run is so of it
  module _ (G : Type 0)
      (by_run : (o : Options) (trace : TraceView) (text_of : Closed P → List Results → List ℕ)
      → RunsTrace meaning run sink o trace text_of → G) where
    text_ran : (o : Options) (output : Output) (bytes : List ℕ) → TextEnds meaning run sink o output bytes → G
    text_ran o output bytes (inl ran) = by_run o _ _ ran.runs
    text_ran o output bytes (inr faulty) = none faulty.no_results

    source_ran : (Ended : List ℕ → Type 0) → ((bytes : List ℕ) → Ended bytes → G) → SourceEnds meaning run sink source Ended → G
    source_ran Ended by_text (inl read) = by_text read.bytes read.ends
    source_ran Ended by_text (inr ended) = none ended.tells.no_results

    command_ran : (o : Options) (wanted : Command) → CommandEnds meaning run sink source o wanted → G
    command_ran o (command.Run output) ends = source_ran _ (text_ran o output) ends
    command_ran o command.Check ends = source_ran _ (λ bytes tells. none tells.no_results) ends
    command_ran o (command.Stress seed) ran = by_run o _ _ ran

    asked_ran : (asked : Option Asked) → EndsAsked meaning run sink source asked → G
    asked_ran None tells = none tells.no_results
    asked_ran (Some asked) (inl done) = command_ran asked.options asked.command done
    asked_ran (Some asked) (inr lacking) = none lacking.0.no_results

  -- ---- by the results
  results_are : (o : Options) (trace : TraceView) (text_of : Closed P → List Results → List ℕ)
      (ran : RunsTrace meaning run sink o trace text_of) → ran.results ≡ results
  results_are o trace text_of ran = same_some ran.results results (sym ran.results_are ∙ has)

  status_is : (o : Options) (trace : TraceView) (text_of : Closed P → List Results → List ℕ)
      → RunsTrace meaning run sink o trace text_of → run.status ≡ cond (has_finding results) 1 0
  status_is o trace text_of ran =
      (wrote run.status (status_after ran.results) _ ran.written).0
      ∙ ap (λ (rs : List Results). cond (has_finding rs) 1 0) (results_are o trace text_of ran)

  pub told_results : (words : List (String Global)) → Ends meaning words run source sink → Says run.status (has_finding results)
  told_results words ends =
      asked_ran (Says run.status (has_finding results))
      (λ o trace text_of ran. says run.status (has_finding results) (status_is o trace text_of ran)) (asked_in words) ends.1

  -- ---- by the report
  module _ (show : FindingsShow) (held text : List ℕ) (before : sink.before ≡ Some held) (after : sink.after ≡ Some (held ++ text)) where
    report_says : (o : Options) (bytes : List ℕ) → RunsText meaning run sink o Report bytes → Says run.status (tells_finding text)
    report_says o bytes ran =
        let put = wrote run.status (status_after ran.runs.results) _ ran.runs.written in
        let is = put_is sink.before sink.after held text _ before after put.1 in
        let tells : tells_finding text ≡ has_finding ran.runs.results =
        ap tells_finding is ∙ show (notes_in 1 ran.trace.rounds) ran.runs.results (trace_lines ran.trace.version 1 ran.trace.rounds ran.is_trace.each) in
        says run.status (tells_finding text) (put.0 ∙ ap (λ b. cond b 1 0) (sym tells))

    pub told_text : (words : List (String Global)) → Ends meaning words run source sink → AsksReport words
        → Says run.status (tells_finding text)
    told_text words ends asks = by_end (subst (λ (o : Option Asked). EndsAsked meaning run sink source o) asks.1 ends.1)
      where
        by_end : EndsAsked meaning run sink source (Some (record { command = command.Run Report; options = asks.0 }))
            → Says run.status (tells_finding text)
        by_end (inl (inl read)) = by_text read.bytes read.ends
          where
            by_text : (bytes : List ℕ) → TextEnds meaning run sink asks.0 Report bytes → Says run.status (tells_finding text)
            by_text bytes (inl ran) = report_says asks.0 bytes ran
            by_text bytes (inr faulty) = none faulty.no_results
        by_end (inl (inr ended)) = none ended.tells.no_results
        by_end (inr lacking) = none lacking.0.no_results

  -- ---- by the histories
  module _ (closed : Closed P) (closed_is : run.closed ≡ Some closed) where
    abbrev found : Closed P → List Results → Bool
    found left rs = counts_finding left.histories || has_own_finding rs

    entries_say : (o : Options) (trace : TraceView) (text_of : Closed P → List Results → List ℕ)
        → RunsTrace meaning run sink o trace text_of → run.status ≡ cond (found closed results) 1 0
    entries_say o trace text_of ran =
        let counted = findings_counted (config_of o) ran.left.histories (scripts_of trace) ran.results ran.replayed.names ran.replayed.rounds in
        let left : ran.left ≡ closed = same_some ran.left closed (sym ran.closed_is ∙ closed_is) in
        (wrote run.status (status_after ran.results) _ ran.written).0
        ∙ (ap (λ b. cond b 1 0) counted
        ∙ (ap (λ (c : Closed P). cond (found c ran.results) 1 0) left
        ∙ ap (λ (rs : List Results). cond (found closed rs) 1 0) (results_are o trace text_of ran)))

    pub told_entries : (words : List (String Global)) → Ends meaning words run source sink → Says run.status (found closed results)
    told_entries words ends =
        asked_ran (Says run.status (found closed results))
        (λ o trace text_of ran. says run.status (found closed results) (entries_say o trace text_of ran)) (asked_in words) ends.1
