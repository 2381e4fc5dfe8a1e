-- The journals of legal and drawn histories.
use Rattle.std.specs.Prelude.{◌≡◌, ◌↔◌, ℕ, ◌+◌, true, List, [], ◌∷◌, map, length}
use Rattle.std.specs.List.{All, range_with_len}
use Rattle.hm_sizes.specs.declared.config.Config.{Config}
use Rattle.hm_sizes.specs.Configs.{IsValid}
use Rattle.hm_sizes.specs.Origins.{Origin}
use Rattle.hm_heap.specs.declared.close.History.{History}
use Rattle.hm_heap.specs.Lawful.{IsLawful, fault_count, first_address}
use Rattle.hm_journal.specs.Journals.{journal_text}
use Rattle.hm_journal.specs.Ranges.{JournalFits}
use Rattle.hm_journal.specs.Runs.{EntryRuns}
use Rattle.hm_check.specs.declared.verdict.Verdict.TheVariants.{Yes}
use Rattle.hm_check.specs.Readers.{region_at, region_count}
use Rattle.hm_check.specs.Verdicts.{IsVerdict}

-- the numbers of a configuration's regions in order: those of the classes, and the large one
abbrev pub region_numbers : Config → List ℕ
region_numbers c = map (region_at c) (range_with_len 0 (region_count c))

-- the region of a history, in a run that tells
abbrev pub origin_in : Config → ℕ → History → Origin
origin_in c n h = record { config = c; seed = n; region = h.region.0; told = true }

-- how many entries the histories have together
abbrev pub entry_count : List History → ℕ
entry_count [] = 0
entry_count (h ∷ hs) = length h.entries + entry_count hs

-- it is legal and drawn, begins where the region does, and was closed with its last count
pub record IsLawfulHistory (c : Config) (n : ℕ) (h : History) : Type 0 where
  pub lawful : IsLawful (origin_in c n h) h.entries
  pub first : h.first ≡ first_address (origin_in c n h)
  pub faults : h.faults ≡ fault_count (origin_in c n h) h.entries
  pub runs : All EntryRuns h.entries

-- the bytes are the journal of the histories of all regions of a valid configuration, which have so many entries
pub record IsJournalOf (bytes : List ℕ) (entries : ℕ) (c : Config) (n : ℕ) (hs : List History) : Type 0 where
  pub valid : IsValid c
  pub fits : JournalFits c n hs
  pub regions : map (λ (h : History). h.region.0) hs ≡ region_numbers c
  pub lawful : All (IsLawfulHistory c n) hs
  pub count : entries ≡ entry_count hs
  pub text : bytes ≡ journal_text c n hs

-- the verdict is Yes exactly for these
abbrev pub YesIsJournal : Type 0
YesIsJournal = (bytes : List ℕ) (entries : ℕ) → IsVerdict bytes (Yes entries)
    ↔ ((c : Config) × (n : ℕ) × (hs : List History) × IsJournalOf bytes entries c n hs)
