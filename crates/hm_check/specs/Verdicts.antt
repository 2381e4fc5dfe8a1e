-- The first line of a text at fault, and when there is none.
use Rattle.std.specs.Prelude.{◌≡◌, ◌⊎◌, ℕ, zero, suc, ◌+◌, ◌==◌, ◌<◌, ◌≤◌, List, [], ◌∷◌, ◌++◌, ⊤}
use Rattle.std.specs.List.{slice_split}
use Rattle.hm_model.specs.declared.entry.Entry.{Entry}
use Rattle.hm_sizes.specs.Configs.{IsValid}
use Rattle.hm_sizes.specs.Origins.{Origin, large_region_number}
use Rattle.hm_class_rules.specs.Drawn as class_draws
use Rattle.hm_class_rules.specs.Rules as class
use Rattle.hm_large_rules.specs.Drawn as large_drawn
use Rattle.hm_large_rules.specs.Rules as large
use Rattle.hm_heap.specs.Lawful.{arena_of, class_terms, fault_count, first_address, large_terms}
use Rattle.hm_journal.specs.Ranges.{EntryFits, Fits64}
use Rattle.hm_journal.specs.Runs.{EntryRuns}
use Rattle.hm_check.specs.declared.verdict.JournalFault.{JournalFault}
use Rattle.hm_check.specs.declared.verdict.JournalFault.TheVariants.{BadText, NotLegal, NotDrawn}
use Rattle.hm_check.specs.declared.verdict.Verdict.{Verdict}
use Rattle.hm_check.specs.declared.verdict.Verdict.TheVariants.{Yes, No}
use Rattle.hm_check.specs.Readers.{Stage, AtHeader, AtConfig, AtSeed, AtRegion, AtEntry, Ended, Said, Header, Configured, Seeded, Region, Made, Closed, End, Reader, start, region_count, origin_of, line_of, read}

-- ---- what a line says
-- it may stand here
abbrev pub MayStand : Reader → Said → Type 0
MayStand r Header = r.stage ≡ AtHeader
MayStand r (Configured c) = r.stage ≡ AtConfig
MayStand r (Seeded n) = r.stage ≡ AtSeed
MayStand r (Region first count) = (r.stage ≡ AtRegion) × (r.regions < region_count r.config)
MayStand r (Made e) = (left : ℕ) × (r.stage ≡ AtEntry (suc left))
MayStand r (Closed faults) = r.stage ≡ AtEntry zero
MayStand r End = (r.stage ≡ AtRegion) × (region_count r.config ≤ r.regions)

-- its numbers are in the ranges of their types, its configuration is valid, its runs keep the rules of runs
abbrev pub SaidFits : Said → Type 0
SaidFits (Configured c) = IsValid c
SaidFits (Seeded n) = Fits64 n
SaidFits (Region first count) = Fits64 first × Fits64 count
SaidFits (Made e) = EntryFits e × EntryRuns e
SaidFits (Closed faults) = Fits64 faults
SaidFits said = ⊤

-- the line says this
pub record Says (r : Reader) (line : List ℕ) (said : Said) : Type 0 where
  pub stands : MayStand r said
  pub fits : SaidFits said
  pub is : line ≡ line_of r said

-- ---- what is legal and drawn
pub record IsLegalHistory (o : Origin) (history : List Entry) : Type 0 where
  pub class : o.region < large_region_number → class.IsLegal (class_terms o) history
  pub large : o.region ≡ large_region_number → large.IsLegal (large_terms o) history

pub record IsDrawnHistory (o : Origin) (history : List Entry) : Type 0 where
  pub class : o.region < large_region_number
      → class_draws.IsDrawn o.seed (arena_of o.region) (class_terms o) history
  pub large : o.region ≡ large_region_number → large_drawn.IsDrawn o.seed history

-- the region's history is legal with the entry; it is closed with its last count of page faults
abbrev pub IsLegal : Reader → Said → Type 0
IsLegal r (Made e) = IsLegalHistory (origin_of r) (r.past ++ e ∷ [])
IsLegal r (Closed faults) = faults ≡ fault_count (origin_of r) r.past
IsLegal r said = ⊤

-- the region's history is drawn with the entry; the region begins where its first word says
abbrev pub IsDrawn : Reader → Said → Type 0
IsDrawn r (Made e) = IsDrawnHistory (origin_of r) (r.past ++ e ∷ [])
IsDrawn r (Region first count) = first ≡ first_address (origin_of r)
IsDrawn r said = ⊤

-- ---- verdicts
-- the line is at fault
abbrev pub IsFault : Reader → List ℕ → JournalFault → Type 0
IsFault r line BadText = (said : Said) → Says r line said → ⊥
IsFault r line NotLegal = (said : Said) × Says r line said × (IsLegal r said → ⊥)
IsFault r line NotDrawn = (said : Said) × Says r line said × IsLegal r said × (IsDrawn r said → ⊥)

-- the line says this and is not at fault
pub record Passes (r : Reader) (line : List ℕ) (said : Said) : Type 0 where
  pub says : Says r line said
  pub legal : IsLegal r said
  pub drawn : IsDrawn r said

-- the verdict at the last piece, which no line feed ends: nothing may be missing or stand there
abbrev pub last_verdict : Stage → List ℕ → ℕ → ℕ → Verdict
last_verdict Ended [] k total = Yes total
last_verdict stage piece k total = No k BadText

-- the verdict on the pieces of a text between its line feeds, of which the first is line k
unfoldable pub Judges : Reader → ℕ → List (List ℕ) → Verdict → Type 0
Judges r k [] v = ⊥
Judges r k (last ∷ []) v = v ≡ last_verdict r.stage last k r.total
Judges r k (line ∷ next ∷ more) v =
    ((said : Said) × Passes r (line ++ 10 ∷ []) said × Judges (read r said) (k + 1) (next ∷ more) v)
    ⊎ ((fault : JournalFault) × IsFault r (line ++ 10 ∷ []) fault × (v ≡ No k fault))

-- the pieces of a text between its line feeds
abbrev pub lines_in : List ℕ → List (List ℕ)
lines_in bytes = slice_split (λ b. b == 10) bytes

-- the verdict on a text
abbrev pub IsVerdict : List ℕ → Verdict → Type 0
IsVerdict bytes v = Judges start 1 (lines_in bytes) v

-- a text has one verdict at most
abbrev pub OneVerdict : Type 0
OneVerdict = (bytes : List ℕ) (v u : Verdict) → IsVerdict bytes v → IsVerdict bytes u → v ≡ u
