-- What is read of a journal line by line: what each line says, and what is known once it is read.
use Rattle.std.specs.Prelude.{ℕ, suc, ◌+◌, ◌*◌, nat_lt, true, List, [], ◌∷◌, ◌++◌, if◌then◌else◌}
use Rattle.hm_model.specs.declared.entry.Entry.{Entry}
use Rattle.hm_sizes.specs.declared.config.Config.{Config}
use Rattle.hm_sizes.specs.Classes.{class_count}
use Rattle.hm_sizes.specs.Configs.{standard}
use Rattle.hm_sizes.specs.Origins.{Origin, large_region_number}
use Rattle.hm_journal.specs.Entries.{entry_words}
use Rattle.hm_journal.specs.Journals.{config_words}
use Rattle.hm_journal.specs.Lines.{header_line, seed_line, region_line, closed_line, end_line}
use Rattle.hm_journal.specs.Words.{line_text}

-- what the next line is to be: the header, the configuration, the seed, a region or the end, so many entries and then
-- how the region was closed, nothing
pub data Stage : Type 0 where
  AtHeader : Stage
  AtConfig : Stage
  AtSeed : Stage
  AtRegion : Stage
  AtEntry : ℕ → Stage
  Ended : Stage

-- what a line says
pub data Said : Type 0 where
  Header : Said
  Configured : Config → Said
  Seeded : ℕ → Said
  Region : ℕ → ℕ → Said
  Made : Entry → Said
  Closed : ℕ → Said
  End : Said

-- what was read so far: `regions` have been closed, `past` is the history of the open one, `total` counts all entries
pub record Reader : Type 0 where
  pub stage : Stage
  pub config : Config
  pub seed : ℕ
  pub regions : ℕ
  pub past : List Entry
  pub total : ℕ

-- nothing was read; of what is not known yet any value stands
abbrev pub start : Reader
start = record { stage = AtHeader; config = standard; seed = 0; regions = 0; past = []; total = 0 }

-- ---- the regions of a configuration, in order
abbrev pub class_regions : Config → ℕ
class_regions c = c.arenas * class_count

-- those of the classes, and the large one
abbrev pub region_count : Config → ℕ
region_count c = class_regions c + 1

-- the number of the region before which so many stand
abbrev pub region_at : Config → ℕ → ℕ
region_at c index = if nat_lt index (class_regions c) then index else large_region_number

-- the open region, or the one that is opened next. A journal counts as told
abbrev pub origin_of : Reader → Origin
origin_of r = record {
  config = r.config;
  seed = r.seed;
  region = region_at r.config r.regions;
  told = true;
}

-- ---- lines
-- the words that say it
abbrev pub said_words : Reader → Said → List (List ℕ)
said_words r Header = header_line
said_words r (Configured c) = config_words c
said_words r (Seeded n) = seed_line n
said_words r (Region first count) = region_line (region_at r.config r.regions) first count
said_words r (Made e) = entry_words e
said_words r (Closed faults) = closed_line faults
said_words r End = end_line

abbrev pub line_of : Reader → Said → List ℕ
line_of r said = line_text (said_words r said)

-- one entry less is to come
abbrev pub one_less : Stage → Stage
one_less (AtEntry (suc left)) = AtEntry left
one_less stage = stage

-- what was read once it is said
abbrev pub read : Reader → Said → Reader
read r Header = record r { stage = AtConfig }
read r (Configured c) = record r { stage = AtSeed; config = c }
read r (Seeded n) = record r { stage = AtRegion; seed = n }
read r (Region first count) = record r { stage = AtEntry count; past = [] }
read r (Made e) = record r { stage = one_less r.stage; past = r.past ++ e ∷ []; total = r.total + 1 }
read r (Closed faults) = record r { stage = AtRegion; regions = r.regions + 1 }
read r End = record r { stage = Ended }
