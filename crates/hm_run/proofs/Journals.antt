-- A journal that a run wrote is that of its heap, and its numbers are in their ranges.
use Rattle.std.proofs.Common.{◌≡◌, ℕ, inl, inr, List, [], Option, Some, None, unwrap_or, sym, ◌∙◌, ap, subst}
use Rattle.std.proofs.lemmas.Option.{none-some}
use Rattle.hm_outside.specs.declared.pages.Pages as pages
use Rattle.hm_outside.specs.Streams.{Put}
use Rattle.hm_heap.specs.declared.close.Closed.{Closed}
use Rattle.hm_journal.specs.Journals.{journal_text}
use Rattle.hm_journal.specs.Ranges.{JournalFits}
use Rattle.hm_run.specs.declared.run.Run.{Run}
use Rattle.hm_run.specs.declared.words.Asked.{Asked}
use Rattle.hm_run.specs.declared.words.Command.TheVariants as command
use Rattle.hm_run.specs.declared.words.Options.{Options}
use Rattle.hm_run.specs.declared.words.Output.TheVariants.{Journal}
use Rattle.hm_run.specs.Words.{config_of}
use Rattle.hm_run.specs.Endings.{EndsAsked, RunsText, SourceEnds, TextEnds}
use Rattle.hm_run.specs.Laws.{WritesJournal}
use Rattle.hm_run.specs.Streams.{IsWritten}

abbrev pub IsJournalOf : {P : Type 0} → Options → Closed P → List ℕ → Type 0
IsJournalOf o left text = (text ≡ journal_text (config_of o) o.seed left.histories) × JournalFits (config_of o) o.seed left.histories

-- what was put to an empty sink is what it holds
put_is : (before after : Option (List ℕ)) (text bytes : List ℕ) → before ≡ Some [] → after ≡ Some text → Put before after bytes → text ≡ bytes
put_is before after text bytes empty holds put =
    subst (λ (o : Option (List ℕ)). Put (Some []) o bytes) holds (subst (λ (o : Option (List ℕ)). Put o after bytes) empty put)

module _ {P : Type 0} (meaning : pages.Ghosts P) (run : Run P) (o : Options) (left : Closed P) (text : List ℕ)
    (wrote : WritesJournal meaning run o left text) where
  nothing_closed : run.closed ≡ None → ⊥
  nothing_closed none = none-some left (sym none ∙ wrote.closed_is)

  written_is : (status planned : ℕ) (bytes : List ℕ) → IsWritten status planned wrote.sink bytes → text ≡ bytes
  written_is status planned bytes (inl w) = put_is wrote.sink.before wrote.sink.after text bytes wrote.empty wrote.holds w.2
  written_is status planned bytes (inr w) = absurd (wrote.whole w.1)

  by_run : (bytes : List ℕ) → RunsText meaning run wrote.sink o Journal bytes → IsJournalOf o left text
  by_run bytes ran =
      subst (λ (closed : Closed P). IsJournalOf o closed text)
      (ap (λ (c : Option (Closed P)). unwrap_or c left) (sym ran.runs.closed_is ∙ wrote.closed_is))
      (written_is run.status _ _ ran.runs.written, ran.fits)

  by_text : (bytes : List ℕ) → TextEnds meaning run wrote.sink o Journal bytes → IsJournalOf o left text
  by_text bytes (inl ran) = by_run bytes ran
  by_text bytes (inr faulty) = absurd (nothing_closed faulty.not_closed)

  by_source : SourceEnds meaning run wrote.sink wrote.source (TextEnds meaning run wrote.sink o Journal) → IsJournalOf o left text
  by_source (inl read) = by_text read.bytes read.ends
  by_source (inr refused) = absurd (nothing_closed refused.tells.not_closed)

  by_end : EndsAsked meaning run wrote.sink wrote.source (Some (record { command = command.Run Journal; options = o })) → IsJournalOf o left text
  by_end (inl done) = by_source done
  by_end (inr none) = absurd (nothing_closed none.0.not_closed)

  pub journal_of : IsJournalOf o left text
  journal_of = by_end (subst (λ (asked : Option Asked). EndsAsked meaning run wrote.sink wrote.source asked) wrote.asks wrote.ends.1)
