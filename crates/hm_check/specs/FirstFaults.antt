-- Which journals begin with the lines of a text: what it means that a line is the first one at fault.
use Rattle.std.specs.Prelude.{◌≡◌, ◌⊎◌, ℕ, ◌+◌, ◌<◌, List, [], ◌∷◌, ◌++◌, map, take, length, ◌↔◌, ⊤}
use Rattle.std.specs.List.{All, flat_map}
use Rattle.hm_sizes.specs.declared.config.Config.{Config}
use Rattle.hm_sizes.specs.Configs.{IsValid}
use Rattle.hm_heap.specs.declared.close.History.{History}
use Rattle.hm_heap.specs.Lawful.{fault_count, first_address}
use Rattle.hm_journal.specs.Journals.{journal_text}
use Rattle.hm_journal.specs.Ranges.{JournalFits}
use Rattle.hm_journal.specs.Runs.{EntryRuns}
use Rattle.hm_check.specs.declared.verdict.JournalFault.{JournalFault}
use Rattle.hm_check.specs.declared.verdict.JournalFault.TheVariants.{BadText, NotLegal, NotDrawn}
use Rattle.hm_check.specs.declared.verdict.Verdict.TheVariants.{No}
use Rattle.hm_check.specs.Journals.{IsJournalOf, origin_in, region_numbers}
use Rattle.hm_check.specs.Verdicts.{IsDrawnHistory, IsLegalHistory, IsVerdict, lines_in}

-- ---- lines
-- so many lines end in the text
abbrev pub HasLines : List ℕ → ℕ → Type 0
HasLines bytes count = count < length (lines_in bytes)

abbrev pub with_feed : List ℕ → List ℕ
with_feed piece = piece ++ 10 ∷ []

-- the first lines of the text, each with its line feed
abbrev pub first_lines : ℕ → List ℕ → List ℕ
first_lines count bytes = flat_map with_feed (take count (lines_in bytes))

-- ---- kinds of histories
-- it may say anything
abbrev pub AnyHistory : Config → ℕ → History → Type 0
AnyHistory c n h = ⊤

-- each entry is allowed after those before it, and it was closed with its last count of page faults
pub record IsLegalPart (c : Config) (n : ℕ) (h : History) : Type 0 where
  pub entries : IsLegalHistory (origin_in c n h) h.entries
  pub faults : h.faults ≡ fault_count (origin_in c n h) h.entries

-- its words and choices are those that the number gives, and it begins where the number says
pub record IsDrawnPart (c : Config) (n : ℕ) (h : History) : Type 0 where
  pub entries : IsDrawnHistory (origin_in c n h) h.entries
  pub first : h.first ≡ first_address (origin_in c n h)

-- ---- journals
abbrev pub HasRuns : History → Type 0
HasRuns h = All EntryRuns h.entries

-- the bytes are the journal of histories of all regions of a valid configuration, each of this kind
pub record IsJournalWith (Kind : Config → ℕ → History → Type 0) (bytes : List ℕ) : Type 0 where
  pub config : Config
  pub number : ℕ
  pub histories : List History
  pub valid : IsValid config
  pub fits : JournalFits config number histories
  pub regions : map (λ (h : History). h.region.0) histories ≡ region_numbers config
  pub runs : All HasRuns histories
  pub each : All (Kind config number) histories
  pub text : bytes ≡ journal_text config number histories

abbrev pub IsAnyJournal : List ℕ → Type 0
IsAnyJournal bytes = IsJournalWith AnyHistory bytes

abbrev pub IsLegalJournal : List ℕ → Type 0
IsLegalJournal bytes = IsJournalWith IsLegalPart bytes

abbrev pub IsDrawnJournal : List ℕ → Type 0
IsDrawnJournal bytes = IsJournalWith IsDrawnPart bytes

-- those whose verdict is Yes
abbrev pub IsLawfulJournal : List ℕ → Type 0
IsLawfulJournal bytes =
    (entries : ℕ) × (c : Config) × (n : ℕ) × (hs : List History) × IsJournalOf bytes entries c n hs

-- some journal of this kind begins with these bytes
abbrev pub BeginsSome : (List ℕ → Type 0) → List ℕ → Type 0
BeginsSome IsOne bytes = (rest : List ℕ) × IsOne (bytes ++ rest)

-- ---- the first line at fault
-- no journal begins with the lines up to this one; or it has no line feed, and the whole text is no journal
abbrev pub IsBadText : List ℕ → ℕ → Type 0
IsBadText bytes line = (HasLines bytes line × (BeginsSome IsAnyJournal (first_lines line bytes) → ⊥))
    ⊎ ((HasLines bytes line → ⊥) × (IsAnyJournal bytes → ⊥))

-- some journal begins with the lines up to this one, and none of legal histories
pub record IsNotLegal (bytes : List ℕ) (line : ℕ) : Type 0 where
  pub there : HasLines bytes line
  pub some : BeginsSome IsAnyJournal (first_lines line bytes)
  pub none : BeginsSome IsLegalJournal (first_lines line bytes) → ⊥

-- some journal of legal histories begins with the lines up to this one, and none of drawn histories
pub record IsNotDrawn (bytes : List ℕ) (line : ℕ) : Type 0 where
  pub there : HasLines bytes line
  pub some : BeginsSome IsLegalJournal (first_lines line bytes)
  pub none : BeginsSome IsDrawnJournal (first_lines line bytes) → ⊥

abbrev pub IsFaultAt : List ℕ → ℕ → JournalFault → Type 0
IsFaultAt bytes line BadText = IsBadText bytes line
IsFaultAt bytes line NotLegal = IsNotLegal bytes line
IsFaultAt bytes line NotDrawn = IsNotDrawn bytes line

-- so many lines stand before it, some journal of legal and drawn histories begins with them, and this is the fault
pub record IsFirstFault (bytes : List ℕ) (line : ℕ) (fault : JournalFault) : Type 0 where
  pub before : ℕ
  pub number : line ≡ before + 1
  pub there : HasLines bytes before
  pub good : BeginsSome IsLawfulJournal (first_lines before bytes)
  pub holds : IsFaultAt bytes line fault

-- ---- the laws
-- the verdict is No exactly for these
abbrev pub NoIsFirstFault : Type 0
NoIsFirstFault = (bytes : List ℕ) (line : ℕ) (fault : JournalFault)
    → IsVerdict bytes (No line fault) ↔ IsFirstFault bytes line fault

-- no journal of legal and drawn histories begins with the lines up to the one at fault; nor is the text one
abbrev pub NoneGoesOn : Type 0
NoneGoesOn = (bytes : List ℕ) (line : ℕ) (fault : JournalFault) → IsVerdict bytes (No line fault)
    → (HasLines bytes line → BeginsSome IsLawfulJournal (first_lines line bytes) → ⊥)
    × (IsLawfulJournal bytes → ⊥)
