-- What a checker keeps of the lines so far, as what was read of them, and what a further line comes to.
use Rattle.std.specs.Prelude.{◌≡◌, ◌<◌, ℕ, List, Option, Some, None, ⊤}
use Rattle.hm_model.specs.declared.entry.Entry.{Entry}
use Rattle.hm_sizes.specs.Configs.{IsValid}
use Rattle.hm_check.specs.declared.progress.Next.{Next}
use Rattle.hm_check.specs.declared.progress.Next.TheVariants.{Header, Configuration, Seed, Region, Entries, Nothing}
use Rattle.hm_check.specs.declared.progress.Progress.{Progress}
use Rattle.hm_check.specs.declared.region_book.RegionBook.{RegionBook}
use Rattle.hm_check.specs.declared.verdict.JournalFault.{JournalFault}
use Rattle.hm_check.specs.Readers.{Stage, AtHeader, AtConfig, AtSeed, AtRegion, AtEntry, Ended, Said, Reader, read, region_at, region_count}
use Rattle.hm_check.specs.RegionBooks.{IsBook}
use Rattle.hm_check.specs.Verdicts.{IsFault, Passes}

abbrev pub stage_of : Next → Stage
stage_of Header = AtHeader
stage_of Configuration = AtConfig
stage_of Seed = AtSeed
stage_of Region = AtRegion
stage_of (Entries left) = AtEntry left
stage_of Nothing = Ended

-- what was read, where the history of the open region is this
abbrev pub reader_of : Progress → List Entry → Reader
reader_of p past = record {
  stage = stage_of p.next;
  config = p.config;
  seed = p.seed;
  regions = p.regions;
  past = past;
  total = p.total;
}

-- the number of the open region, or of the one that is opened next
abbrev pub region_of : Progress → ℕ
region_of p = region_at p.config p.regions

-- a region's entries are read into its book
abbrev pub IsOpen : Progress → List Entry → Next → Option RegionBook → Type 0
IsOpen p past (Entries left) (Some b) =
    (p.regions < region_count p.config) × IsBook p.config p.seed (region_of p) past b
IsOpen p past (Entries left) None = ⊥
IsOpen p past next book = ⊤

pub record Knows (p : Progress) (past : List Entry) : Type 0 where
  pub valid : IsValid p.config
  pub open_book : IsOpen p past p.next p.book

abbrev pub IsReady : Progress → Type 0
IsReady p = (past : List Entry) × Knows p past

-- the line passes, and what is kept is what was read with it; or it is at fault
abbrev pub Comes : Reader → List ℕ → Progress → Option JournalFault → Type 0
Comes r line new None = (said : Said) × (past : List Entry) × Passes r line said × (reader_of new past ≡ read r said)
    × Knows new past
Comes r line new (Some fault) = IsFault r line fault
