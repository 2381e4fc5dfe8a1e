-- What is kept of a journal's lines, once a line was read that is not at fault; and the verdict where no line is left.
use Rattle.std.proofs.Common.{◌≡◌, ℕ, suc, ◌+◌, ◌-◌, ◌<◌, ◌≤◌, List, [], ◌∷◌, ◌++◌, length, Option, Some, None, refl, sym, ◌∙◌, ap, subst, arith}
use Rattle.hm_sizes.specs.declared.config.Config.{Config}
use Rattle.hm_sizes.specs.Configs.{IsValid}
use Rattle.hm_model.specs.declared.entry.Entry.{Entry}
use Rattle.hm_heap.specs.Lawful.{fault_count, first_address}
use Rattle.hm_journal.specs.declared.lines.RegionLine.{RegionLine}
use Rattle.hm_journal.specs.Entries.{entry_words}
use Rattle.hm_journal.specs.Journals.{config_words}
use Rattle.hm_journal.specs.Lines.{closed_line, end_line, header_line, region_line, seed_line}
use Rattle.hm_journal.specs.Ranges.{EntryFits, Fits32, Fits64}
use Rattle.hm_journal.specs.Runs.{EntryRuns}
use Rattle.hm_journal.specs.Words.{line_text}
use Rattle.hm_check.specs.declared.progress.Next.{Next}
use Rattle.hm_check.specs.declared.progress.Next.TheVariants as next
use Rattle.hm_check.specs.declared.progress.Progress.{Progress}
use Rattle.hm_check.specs.declared.region_book.RegionBook.{RegionBook}
use Rattle.hm_check.specs.declared.verdict.JournalFault.{JournalFault}
use Rattle.hm_check.specs.declared.verdict.JournalFault.TheVariants.{BadText, NotLegal, NotDrawn}
use Rattle.hm_check.specs.declared.verdict.Verdict.{Verdict}
use Rattle.hm_check.specs.declared.verdict.Verdict.TheVariants.{Yes, No}
use Rattle.hm_check.specs.Progress.{Comes, IsOpen, IsReady, Knows, reader_of, region_of, stage_of}
use Rattle.hm_check.specs.Readers.{Stage, AtEntry, Ended, Said, Header, Configured, Seeded, Region, Made, Closed, End, Reader, one_less, read, region_count}
use Rattle.hm_check.specs.RegionBooks.{IsBook, IsJudged, IsSomeBook, told_origin}
use Rattle.hm_check.specs.Verdicts.{IsFault, Judges, Passes, Says, lines_in}
use Rattle.hm_check.proofs.OneSaid.{region_fits}
use Rattle.hm_check.proofs.Steps.{at_end, at_fault, cut_off, goes_on, line_missing, no_region}

-- ---- the book of the open region
pub book_of : (p : Progress) (past : List Entry) (left : ℕ) (b : RegionBook) → p.next ≡ next.Entries left
    → p.book ≡ Some b → Knows p past
    → (p.regions < region_count p.config) × IsBook p.config p.seed (region_of p) past b
book_of p past left b at is k = subst (λ (o : Option RegionBook). IsOpen p past (next.Entries left) o) is
    (subst (λ (n : Next). IsOpen p past n p.book) at k.open_book)

pub some_book : (p : Progress) (left : ℕ) (b : RegionBook) → p.next ≡ next.Entries left → p.book ≡ Some b → IsReady p
    → IsSomeBook b
some_book p left b at is k = record {
  config = p.config;
  seed = p.seed;
  region = region_of p;
  past = k.0;
  is = (book_of p k.0 left b at is k.1).1;
}

-- ---- lines that pass
module _ (p : Progress) (past : List Entry) (line : List ℕ) (k : Knows p past) where
  pub header_passes : p.next ≡ next.Header → line ≡ line_text header_line
      → Comes (reader_of p past) line (record p { next = next.Configuration }) None
  header_passes at is = (
    Header,
    past,
    record { says = record { stands = ap stage_of at; fits = tt; is = is }; legal = tt; drawn = tt },
    refl,
    record { valid = k.valid; open_book = tt },
  )

  pub config_passes : (c : Config) → p.next ≡ next.Configuration → IsValid c → line ≡ line_text (config_words c)
      → Comes (reader_of p past) line (record p { next = next.Seed; config = c }) None
  config_passes c at valid is = (
    Configured c,
    past,
    record { says = record { stands = ap stage_of at; fits = valid; is = is }; legal = tt; drawn = tt },
    refl,
    record { valid = valid; open_book = tt },
  )

  pub seed_passes : (n : ℕ) → p.next ≡ next.Seed → Fits64 n → line ≡ line_text (seed_line n)
      → Comes (reader_of p past) line (record p { next = next.Region; seed = n }) None
  seed_passes n at fits is = (
    Seeded n,
    past,
    record { says = record { stands = ap stage_of at; fits = fits; is = is }; legal = tt; drawn = tt },
    refl,
    record { valid = k.valid; open_book = tt },
  )

  -- the line of a region
  region_says : (first count : ℕ) → p.next ≡ next.Region → p.regions < region_count p.config
      → Fits64 first → Fits64 count → line ≡ line_text (region_line (region_of p) first count)
      → Says (reader_of p past) line (Region first count)
  region_says first count at more small few is =
      record { stands = (ap stage_of at, more); fits = (small, few); is = is }

  pub region_passes : (first count : ℕ) (b : RegionBook) → p.next ≡ next.Region → p.regions < region_count p.config
      → Fits64 first → Fits64 count → line ≡ line_text (region_line (region_of p) first count)
      → first ≡ first_address (told_origin p.config p.seed (region_of p))
      → IsBook p.config p.seed (region_of p) [] b
      → Comes (reader_of p past) line (record p { next = next.Entries count; book = Some b }) None
  region_passes first count b at more small few is first_is book = (
    Region first count,
    [],
    record { says = region_says first count at more small few is; legal = tt; drawn = first_is },
    refl,
    record { valid = k.valid; open_book = (more, book) },
  )

  pub region_undrawn : (first count : ℕ) → p.next ≡ next.Region → p.regions < region_count p.config
      → Fits64 first → Fits64 count → line ≡ line_text (region_line (region_of p) first count)
      → (first ≡ first_address (told_origin p.config p.seed (region_of p)) → ⊥)
      → IsFault (reader_of p past) line NotDrawn
  region_undrawn first count at more small few is not =
      (Region first count, region_says first count at more small few is, tt, not)

  pub region_bad : (o : Option RegionLine) → p.next ≡ next.Region → p.regions < region_count p.config
      → ((r : RegionLine) → Fits32 r.region.0 → Fits64 r.first → Fits64 r.entries
      → line ≡ line_text (region_line r.region.0 r.first r.entries) → o ≡ Some r)
      → ((r : RegionLine) → r.region.0 ≡ region_of p → o ≡ Some r → ⊥)
      → IsFault (reader_of p past) line BadText
  region_bad o at more only not = no_region (reader_of p past) line (ap stage_of at) more (λ first count small few is.
      not (record { region = record { 0 = region_of p }; first = first; entries = count }) refl
      (only (record { region = record { 0 = region_of p }; first = first; entries = count })
      (region_fits p.config p.regions k.valid) small few is))

  pub end_passes : p.next ≡ next.Region → region_count p.config ≤ p.regions → line ≡ line_text end_line
      → Comes (reader_of p past) line (record p { next = next.Nothing }) None
  end_passes at all is = (
    End,
    past,
    record { says = record { stands = (ap stage_of at, all); fits = tt; is = is }; legal = tt; drawn = tt },
    refl,
    record { valid = k.valid; open_book = tt },
  )

  -- the line that closes a region
  closed_says : (faults : ℕ) → p.next ≡ next.Entries 0 → Fits64 faults → line ≡ line_text (closed_line faults)
      → Says (reader_of p past) line (Closed faults)
  closed_says faults at fits is = record { stands = ap stage_of at; fits = fits; is = is }

  pub closed_passes : (faults : ℕ) → p.next ≡ next.Entries 0 → Fits64 faults → line ≡ line_text (closed_line faults)
      → faults ≡ fault_count (told_origin p.config p.seed (region_of p)) past
      → Comes (reader_of p past) line (record p { next = next.Region; regions = p.regions + 1; book = None }) None
  closed_passes faults at fits is last = (
    Closed faults,
    past,
    record { says = closed_says faults at fits is; legal = last; drawn = tt },
    refl,
    record { valid = k.valid; open_book = tt },
  )

  pub closed_wrong : (faults : ℕ) → p.next ≡ next.Entries 0 → Fits64 faults → line ≡ line_text (closed_line faults)
      → (faults ≡ fault_count (told_origin p.config p.seed (region_of p)) past → ⊥)
      → IsFault (reader_of p past) line NotLegal
  closed_wrong faults at fits is not = (Closed faults, closed_says faults at fits is, not)

  -- the line of an entry
  left_stage : (left : ℕ) → p.next ≡ next.Entries left → 1 ≤ left → stage_of p.next ≡ AtEntry (suc (left - 1))
  left_stage left at some = ap stage_of at ∙ ap AtEntry (omega (arith, some))

  made_says : (e : Entry) (left : ℕ) → p.next ≡ next.Entries left → 1 ≤ left → EntryFits e → EntryRuns e
      → line ≡ line_text (entry_words e) → Says (reader_of p past) line (Made e)
  made_says e left at some fits runs is =
      record { stands = (left - 1, left_stage left at some); fits = (fits, runs); is = is }

  pub made_comes : (e : Entry) (left : ℕ) (b : RegionBook) (fault : Option JournalFault) → p.next ≡ next.Entries left
      → 1 ≤ left → p.regions < region_count p.config → EntryFits e → EntryRuns e → line ≡ line_text (entry_words e)
      → IsJudged p.config p.seed (region_of p) past e b fault
      → Comes (reader_of p past) line
      (record p { next = next.Entries (left - 1); book = Some b; total = p.total + 1 }) fault
  made_comes e left b None at some more fits runs is judged = (
    Made e,
    past ++ e ∷ [],
    record { says = made_says e left at some fits runs is; legal = judged.0; drawn = judged.1 },
    ap (λ (s : Stage). record (reader_of p (past ++ e ∷ [])) { stage = s; total = p.total + 1 })
        (sym (ap one_less (left_stage left at some))),
    record { valid = k.valid; open_book = (more, judged.2) },
  )
  made_comes e left b (Some BadText) at some more fits runs is judged = absurd judged
  made_comes e left b (Some NotLegal) at some more fits runs is judged =
      (Made e, made_says e left at some fits runs is, judged)
  made_comes e left b (Some NotDrawn) at some more fits runs is judged =
      (Made e, made_says e left at some fits runs is, judged.0, judged.1)

-- ---- how many entries were read
counted : (r : Reader) (said : Said) → (read r said).total ≤ r.total + 1
counted r Header = omega arith
counted r (Configured c) = omega arith
counted r (Seeded n) = omega arith
counted r (Region first count) = omega arith
counted r (Made e) = omega arith
counted r (Closed faults) = omega arith
counted r End = omega arith

pub total_most : (p new : Progress) (past : List Entry) (line : List ℕ) → Comes (reader_of p past) line new None
    → new.total ≤ p.total + 1
total_most p new past line comes =
    omega (arith, ap (λ (r : Reader). r.total) comes.3, counted (reader_of p past) comes.0)

-- ---- the verdict on a text, by its first line
abbrev Cut : List ℕ → List ℕ → List ℕ → Type 0
Cut text line rest = (piece : List ℕ) × (line ≡ piece ++ 10 ∷ []) × (lines_in text ≡ piece ∷ lines_in rest)

pub first_at_fault : (r : Reader) (k : ℕ) (text line rest : List ℕ) (fault : JournalFault) → Cut text line rest
    → IsFault r line fault → Judges r k (lines_in text) (No k fault)
first_at_fault r k text line rest fault cut f =
    subst (λ (pieces : List (List ℕ)). Judges r k pieces (No k fault)) (sym cut.2)
    (at_fault r k cut.0 rest fault (subst (λ (l : List ℕ). IsFault r l fault) cut.1 f))

pub first_passes : (p new : Progress) (past : List Entry) (k : ℕ) (text line rest : List ℕ) (v : Verdict)
    → Cut text line rest → (comes : Comes (reader_of p past) line new None)
    → Judges (reader_of new comes.1) (k + 1) (lines_in rest) v → Judges (reader_of p past) k (lines_in text) v
first_passes p new past k text line rest v cut comes judges =
    let r : Reader = reader_of p past in
    subst (λ (pieces : List (List ℕ)). Judges r k pieces v) (sym cut.2)
    (goes_on r k cut.0 rest v comes.0 (subst (λ (l : List ℕ). Passes r l comes.0) cut.1 comes.2)
    (subst (λ (x : Reader). Judges x (k + 1) (lines_in rest) v) comes.3 judges))

-- ---- where no line is left
ends : (n : Next) → stage_of n ≡ Ended → n ≡ next.Nothing
ends next.Header e = cc
ends next.Configuration e = cc
ends next.Seed e = cc
ends next.Region e = cc
ends (next.Entries left) e = cc
ends next.Nothing e = refl

pub ended_yes : (p : Progress) (past : List Entry) (k : ℕ) (rest : List ℕ) → p.next ≡ next.Nothing → length rest ≡ 0
    → Judges (reader_of p past) k (rest ∷ []) (Yes p.total)
ended_yes p past k [] at none = at_end (reader_of p past) k (ap stage_of at)
ended_yes p past k (b ∷ rest) at none = absurd (omega (arith, none))

pub ended_no : (p : Progress) (past : List Entry) (k : ℕ) (rest : List ℕ)
    → (p.next ≡ next.Nothing → length rest ≡ 0 → ⊥) → Judges (reader_of p past) k (rest ∷ []) (No k BadText)
ended_no p past k [] not = line_missing (reader_of p past) k (λ at. not (ends p.next at) refl)
ended_no p past k (b ∷ rest) not = cut_off (reader_of p past) k b rest
