-- The check of a source tells the verdict on its bytes.
use Rattle.std.proofs.Common.{◌≡◌, ◌⊎◌, ℕ, ◌≤◌, inl, inr, List, length, Option, Some, String, Global, ap, subst, arith}
use Rattle.hm_outside.specs.declared.pages.Pages as pages
use Rattle.hm_outside.specs.Streams.{Put}
use Rattle.hm_check.specs.declared.verdict.Verdict.{Verdict}
use Rattle.hm_check.specs.declared.verdict.Verdict.TheVariants.{Yes, No}
use Rattle.hm_check.specs.Journals.{YesIsJournal}
use Rattle.hm_check.specs.Verdicts.{IsVerdict, OneVerdict}
use Rattle.hm_run.specs.declared.refusal.Refusal.{Refusal}
use Rattle.hm_run.specs.declared.refusal.Refusal.TheVariants.{Usage, ReadFault, TooLong}
use Rattle.hm_run.specs.declared.run.Run.{Run}
use Rattle.hm_run.specs.declared.words.Asked.{Asked}
use Rattle.hm_run.specs.declared.words.Command.TheVariants as command
use Rattle.hm_run.specs.Words.{AsksCheck}
use Rattle.hm_run.specs.Checks.{HasJournal, HasNoJournal, IsJournal}
use Rattle.hm_run.specs.Endings.{Ends, EndsAsked, SourceEnds, TellsVerdict, status_of}
use Rattle.hm_run.specs.Limits.{most_bytes}
use Rattle.hm_run.specs.Streams.{Stream, MetFault, IsReadToEnd, IsWritten}
use Rattle.hm_run.specs.Verdicts.{check_text, status_told}
use Rattle.hm_run.proofs.Completed.{EndsWell, read_all, refused}
use Rattle.hm_run.proofs.Exact.{planned_is}

module _ {P : Type 0} (meaning : pages.Ghosts P) (run : Run P) (source sink : Stream) where
  abbrev pub Checked : Type 0
  Checked = SourceEnds meaning run sink source (TellsVerdict meaning run sink)

  -- a check ends by its source, or for want of memory
  pub check_ends : (words : List (String Global)) → Ends meaning words run source sink → AsksCheck words → Checked ⊎ (run.status ≡ 6)
  check_ends words ends asks = by_end (subst (λ (o : Option Asked). EndsAsked meaning run sink source o) asks.1 ends.1)
    where
      by_end : EndsAsked meaning run sink source (Some (record { command = command.Check; options = asks.0 })) → Checked ⊎ (run.status ≡ 6)
      by_end (inl done) = inl done
      by_end (inr none) = inr none.0.status_is

  -- ---- with no fault of the source or the sink
  module _ (bytes : List ℕ) (before : source.before ≡ Some bytes) (short : length bytes ≤ most_bytes)
      (whole : MetFault source → ⊥) (sound : MetFault sink → ⊥) where
    -- what was planned was written
    abbrev Wrote : Verdict → Type 0
    Wrote v = (run.status ≡ status_told v) × Put sink.before sink.after (check_text v)

    wrote : (v : Verdict) → IsWritten run.status (status_told v) sink (check_text v) → Wrote v
    wrote v (inl w) = (w.0, w.2)
    wrote v (inr w) = absurd (sound w.1)

    read_of : Checked → TellsVerdict meaning run sink bytes
    read_of (inl read) =
        subst (λ (l : List ℕ). TellsVerdict meaning run sink l) (read_all source bytes read.bytes before read.read) read.ends
    read_of (inr ended) = absurd (refused ended.refusal source bytes before short whole ended.cause)

    well : (v : Verdict) → run.status ≡ status_told v → EndsWell run.status
    well (Yes entries) e = inl e
    well (No line fault) e = inr (inl e)

    pub check_complete : (words : List (String Global)) → Ends meaning words run source sink → AsksCheck words → EndsWell run.status
    check_complete words ends asks = by_end (check_ends words ends asks)
      where
        by_end : Checked ⊎ (run.status ≡ 6) → EndsWell run.status
        by_end (inl done) = let tells = read_of done in well tells.verdict (wrote tells.verdict tells.written).0
        by_end (inr none) = inr (inr none)

    pub check_told : OneVerdict → (v : Verdict) → IsVerdict bytes v
        → (words : List (String Global)) → Ends meaning words run source sink → AsksCheck words → Wrote v ⊎ (run.status ≡ 6)
    check_told one v is words ends asks = by_end (check_ends words ends asks)
      where
        by_end : Checked ⊎ (run.status ≡ 6) → Wrote v ⊎ (run.status ≡ 6)
        by_end (inl done) =
            let tells = read_of done in
            inl (subst Wrote (one bytes tells.verdict v tells.verdict_is is) (wrote tells.verdict tells.written))
        by_end (inr none) = inr none

  -- ---- what 0 and 1 say
  -- the source was read to its end, and the verdict on its bytes is told by this status
  abbrev ReadAs : ℕ → Type 0
  ReadAs s = (bytes : List ℕ) × IsReadToEnd source bytes × (v : Verdict) × IsVerdict bytes v × (status_told v ≡ s)

  -- a refusal is told by neither
  pub refusal_not : (refusal : Refusal) (s : ℕ) → s ≤ 1 → status_of refusal ≡ s → ⊥
  refusal_not Usage s small e = omega (arith, small, e)
  refusal_not ReadFault s small e = omega (arith, small, e)
  refusal_not TooLong s small e = omega (arith, small, e)

  pub not_five : (s : ℕ) → s ≤ 1 → s ≡ 5 → ⊥
  not_five s small five = omega (arith, small, five)

  read_as : (s : ℕ) → s ≤ 1 → Checked → run.status ≡ s → ReadAs s
  read_as s small (inl read) e =
      let tells = read.ends in (
        read.bytes,
        read.read,
        tells.verdict,
        tells.verdict_is,
        planned_is run.status (status_told tells.verdict) s sink _ tells.written (not_five s small) e,
      )
  read_as s small (inr ended) e =
      absurd (refusal_not ended.refusal s small (planned_is run.status (status_of ended.refusal) s sink _ ended.tells.written (not_five s small) e))

  check_read : (s : ℕ) → s ≤ 1 → (words : List (String Global)) → Ends meaning words run source sink → AsksCheck words
      → run.status ≡ s → ReadAs s
  check_read s small words ends asks e = by_end (check_ends words ends asks)
    where
      by_end : Checked ⊎ (run.status ≡ 6) → ReadAs s
      by_end (inl done) = read_as s small done e
      by_end (inr none) = absurd (omega (arith, none, e, small))

  journal_in : YesIsJournal → (bytes : List ℕ) (v : Verdict) → IsVerdict bytes v → status_told v ≡ 0 → IsJournal bytes
  journal_in exact bytes (Yes entries) is e =
      let of = (exact bytes entries).0 is in
      record { entries = entries; config = of.0; seed = of.1; histories = of.2; journal = of.3 }
  journal_in exact bytes (No line fault) is e = absurd (omega (arith, e))

  none_in : YesIsJournal → OneVerdict → (bytes : List ℕ) (v : Verdict) → IsVerdict bytes v → status_told v ≡ 1 → IsJournal bytes → ⊥
  none_in exact one bytes v is e of =
      let told = (exact bytes of.entries).1 (of.config, of.seed, of.histories, of.journal) in
      omega (arith, ap status_told (one bytes v (Yes of.entries) is told), e)

  pub check_yes : YesIsJournal → (words : List (String Global)) → Ends meaning words run source sink → AsksCheck words
      → run.status ≡ 0 → HasJournal source
  check_yes exact words ends asks e =
      let read = check_read 0 (omega arith) words ends asks e in
      record { bytes = read.0; read = read.1; journal = journal_in exact read.0 read.2 read.3 read.4 }

  pub check_no : YesIsJournal → OneVerdict → (words : List (String Global)) → Ends meaning words run source sink → AsksCheck words
      → run.status ≡ 1 → HasNoJournal source
  check_no exact one words ends asks e =
      let read = check_read 1 (omega arith) words ends asks e in
      record { bytes = read.0; read = read.1; none = none_in exact one read.0 read.2 read.3 read.4 }
