-- What a checker goes by from line to line: what it means that a line is none of those that may stand there, and what the
-- verdict on the lines behind it says of it.
use Rattle.std.proofs.Common.{◌≡◌, inr, ⊎_elim, ℕ, suc, ◌+◌, ◌<◌, ◌≤◌, eqb, List, [], ◌∷◌, ◌++◌, length, refl, sym, ap, subst, arith}
use Rattle.std.proofs.lemmas.List.Splits.{length-slice_split}
use Rattle.hm_model.specs.declared.entry.Entry.{Entry}
use Rattle.hm_journal.specs.Entries.{entry_words}
use Rattle.hm_journal.specs.Lines.{end_line, region_line}
use Rattle.hm_journal.specs.Ranges.{EntryFits, Fits64}
use Rattle.hm_journal.specs.Runs.{EntryRuns}
use Rattle.hm_journal.specs.Words.{line_text}
use Rattle.hm_check.specs.declared.verdict.JournalFault.{JournalFault}
use Rattle.hm_check.specs.declared.verdict.JournalFault.TheVariants.{BadText}
use Rattle.hm_check.specs.declared.verdict.Verdict.{Verdict}
use Rattle.hm_check.specs.declared.verdict.Verdict.TheVariants.{Yes, No}
use Rattle.hm_check.specs.Readers.{Stage, AtHeader, AtConfig, AtSeed, AtRegion, AtEntry, Ended, Said, Region, Made, End, Reader, read, region_at, region_count}
use Rattle.hm_check.specs.Verdicts.{IsFault, Judges, Passes, Says, last_verdict, lines_in}
use Rattle.hm_check.proofs.Chains.{passes_on}
use Rattle.hm_check.proofs.Histories.{shape}

-- ---- a line that says nothing
pub no_region : (r : Reader) (line : List ℕ) → r.stage ≡ AtRegion → r.regions < region_count r.config
    → ((first count : ℕ) → Fits64 first → Fits64 count
    → line ≡ line_text (region_line (region_at r.config r.regions) first count) → ⊥)
    → IsFault r line BadText
no_region r line at more none = λ said h.
    ⊎_elim
    (λ x. let g : Says r line (Region x.0 x.1) = subst (λ (s : Said). Says r line s) x.2 h in
    none x.0 x.1 g.fits.0 g.fits.1 g.is)
    (λ x. let g : Says r line End = subst (λ (s : Said). Says r line s) x h in
    absurd (omega (arith, g.stands.1, more)))
    (shape AtRegion r said at h.stands)

pub no_end : (r : Reader) (line : List ℕ) → r.stage ≡ AtRegion → region_count r.config ≤ r.regions
    → (line ≡ line_text end_line → ⊥) → IsFault r line BadText
no_end r line at all none = λ said h.
    ⊎_elim
    (λ x. let g : Says r line (Region x.0 x.1) = subst (λ (s : Said). Says r line s) x.2 h in
    absurd (omega (arith, g.stands.1, all)))
    (λ x. let g : Says r line End = subst (λ (s : Said). Says r line s) x h in none g.is)
    (shape AtRegion r said at h.stands)

pub no_entry : (r : Reader) (line : List ℕ) (left : ℕ) → r.stage ≡ AtEntry (suc left)
    → ((e : Entry) → EntryFits e → EntryRuns e → line ≡ line_text (entry_words e) → ⊥) → IsFault r line BadText
no_entry r line left at none = λ said h.
    let is = shape (AtEntry (suc left)) r said at h.stands in
    let g : Says r line (Made is.0) = subst (λ (s : Said). Says r line s) is.1 h in
    none is.0 g.fits.0 g.fits.1 g.is

-- ---- verdicts
faulty : (r : Reader) (k : ℕ) (line : List ℕ) (pieces : List (List ℕ)) (fault : JournalFault) → 1 ≤ length pieces
    → IsFault r (line ++ 10 ∷ []) fault → Judges r k (line ∷ pieces) (No k fault)
unfolding Judges
faulty r k line [] fault some f = absurd (omega (arith, some))
faulty r k line (next ∷ more) fault some f = inr (fault, f, refl)

-- a text whose first line is at fault
pub at_fault : (r : Reader) (k : ℕ) (line rest : List ℕ) (fault : JournalFault) → IsFault r (line ++ 10 ∷ []) fault
    → Judges r k (line ∷ lines_in rest) (No k fault)
at_fault r k line rest fault f =
    faulty r k line (lines_in rest) fault (omega (arith, length-slice_split (λ (b : ℕ). eqb b 10) rest)) f

-- a text whose first line is not
pub goes_on : (r : Reader) (k : ℕ) (line rest : List ℕ) (v : Verdict) (said : Said) → Passes r (line ++ 10 ∷ []) said
    → Judges (read r said) (k + 1) (lines_in rest) v → Judges r k (line ∷ lines_in rest) v
goes_on r k line rest v said h g = passes_on r k line (lines_in rest) v said h g

-- a text without a line feed
pub at_end : (r : Reader) (k : ℕ) → r.stage ≡ Ended → Judges r k ([] ∷ []) (Yes r.total)
unfolding Judges
at_end r k at = sym (ap (λ (s : Stage). last_verdict s [] k r.total) at)

pub cut_off : (r : Reader) (k b : ℕ) (piece : List ℕ) → Judges r k ((b ∷ piece) ∷ []) (No k BadText)
unfolding Judges
cut_off r k b piece = cut_in r.stage
  where
    cut_in : (s : Stage) → No k BadText ≡ last_verdict s (b ∷ piece) k r.total
    cut_in AtHeader = refl
    cut_in AtConfig = refl
    cut_in AtSeed = refl
    cut_in AtRegion = refl
    cut_in (AtEntry left) = refl
    cut_in Ended = refl

pub line_missing : (r : Reader) (k : ℕ) → (r.stage ≡ Ended → ⊥) → Judges r k ([] ∷ []) (No k BadText)
unfolding Judges
line_missing r k early = missing_in r.stage early
  where
    missing_in : (s : Stage) → (s ≡ Ended → ⊥) → No k BadText ≡ last_verdict s [] k r.total
    missing_in AtHeader early = refl
    missing_in AtConfig early = refl
    missing_in AtSeed early = refl
    missing_in AtRegion early = refl
    missing_in (AtEntry left) early = refl
    missing_in Ended early = absurd (early refl)
