-- The check of a source that tells says of its bytes what its status and its line say.
use Rattle.std.proofs.Common.{◌≡◌, ◌⊎◌, inl, inr, ℕ, ◌≤◌, List, Some, String, Global, subst, arith}
use Rattle.hm_outside.specs.declared.pages.Pages as pages
use Rattle.hm_outside.specs.Streams.{Put}
use Rattle.hm_check.specs.declared.verdict.Verdict.{Verdict}
use Rattle.hm_check.specs.declared.verdict.Verdict.TheVariants.{Yes, No}
use Rattle.hm_check.specs.FirstFaults.{NoIsFirstFault}
use Rattle.hm_check.specs.Journals.{YesIsJournal}
use Rattle.hm_check.specs.Verdicts.{IsVerdict}
use Rattle.hm_run.specs.declared.run.Run.{Run}
use Rattle.hm_run.specs.Words.{AsksCheck}
use Rattle.hm_run.specs.Endings.{Ends, TellsVerdict}
use Rattle.hm_run.specs.Streams.{Stream, IsWritten}
use Rattle.hm_run.specs.ToldChecks.{TellsFirstFault, TellsJournal}
use Rattle.hm_run.specs.Verdicts.{check_text, status_told}
use Rattle.hm_run.proofs.Checked.{Checked, check_ends, not_five, refusal_not}
use Rattle.hm_run.proofs.Completed.{read_all}
use Rattle.hm_run.proofs.Exact.{planned_is}

module _ {P : Type 0} (meaning : pages.Ghosts P) (run : Run P) (source sink : Stream) (bytes : List ℕ)
    (before : source.before ≡ Some bytes) where
  -- the verdict that was put, of this status
  record Told (s : ℕ) : Type 0 where
    verdict : Verdict
    verdict_is : IsVerdict bytes verdict
    status : status_told verdict ≡ s
    put : Put sink.before sink.after (check_text verdict)

  -- the text was put, where the status is no other one
  put_whole : (planned s : ℕ) (text : List ℕ) → IsWritten run.status planned sink text → s ≤ 1 → run.status ≡ s
      → Put sink.before sink.after text
  put_whole planned s text (inl w) small e = w.2
  put_whole planned s text (inr w) small e = absurd (omega (arith, w.0, e, small))

  told : (s : ℕ) → s ≤ 1 → Checked meaning run source sink ⊎ (run.status ≡ 6) → run.status ≡ s → Told s
  told s small (inl (inl read)) e =
      let tells : TellsVerdict meaning run sink bytes =
      subst (λ (l : List ℕ). TellsVerdict meaning run sink l) (read_all source bytes read.bytes before read.read) read.ends in
      record {
        verdict = tells.verdict;
        verdict_is = tells.verdict_is;
        status = planned_is run.status (status_told tells.verdict) s sink (check_text tells.verdict) tells.written
            (not_five meaning run source sink s small) e;
        put = put_whole (status_told tells.verdict) s (check_text tells.verdict) tells.written small e;
      }
  told s small (inl (inr ended)) e =
      absurd (refusal_not meaning run source sink ended.refusal s small
      (planned_is run.status _ s sink _ ended.tells.written (not_five meaning run source sink s small) e))
  told s small (inr none) e = absurd (omega (arith, none, e, small))

  yes_told : YesIsJournal → Told 0 → TellsJournal sink bytes
  yes_told exact t = by_verdict t.verdict t.verdict_is t.status t.put
    where
      by_verdict : (v : Verdict) → IsVerdict bytes v → status_told v ≡ 0 → Put sink.before sink.after (check_text v)
          → TellsJournal sink bytes
      by_verdict (Yes entries) is e put =
          let of = (exact bytes entries).0 is in
          record { entries = entries; config = of.0; seed = of.1; histories = of.2; journal = of.3; put = put }
      by_verdict (No line fault) is e put = absurd (omega (arith, e))

  no_told : NoIsFirstFault → Told 1 → TellsFirstFault sink bytes
  no_told exact t = by_verdict t.verdict t.verdict_is t.status t.put
    where
      by_verdict : (v : Verdict) → IsVerdict bytes v → status_told v ≡ 1 → Put sink.before sink.after (check_text v)
          → TellsFirstFault sink bytes
      by_verdict (Yes entries) is e put = absurd (omega (arith, e))
      by_verdict (No line fault) is e put =
          record { line = line; fault = fault; first = (exact bytes line fault).0 is; put = put }

  pub tells_journal : YesIsJournal → (words : List (String Global)) → Ends meaning words run source sink → AsksCheck words
      → run.status ≡ 0 → TellsJournal sink bytes
  tells_journal exact words ends asks e =
      yes_told exact (told 0 (omega arith) (check_ends meaning run source sink words ends asks) e)

  pub tells_fault : NoIsFirstFault → (words : List (String Global)) → Ends meaning words run source sink → AsksCheck words
      → run.status ≡ 1 → TellsFirstFault sink bytes
  tells_fault exact words ends asks e =
      no_told exact (told 1 (omega arith) (check_ends meaning run source sink words ends asks) e)
