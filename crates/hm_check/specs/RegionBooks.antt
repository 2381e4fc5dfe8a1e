-- The book of a region of either kind: of which history it is, and what is said of a further entry.
use Rattle.std.specs.Prelude.{◌≡◌, ◌<◌, ◌≤◌, ℕ, true, List, [], ◌∷◌, ◌++◌, Option, Some, None}
use Rattle.hm_model.specs.declared.entry.Entry.{Entry}
use Rattle.hm_sizes.specs.declared.config.Config.{Config}
use Rattle.hm_sizes.specs.Origins.{Origin, large_region_number}
use Rattle.hm_sizes.specs.Shapes.{IsShape}
use Rattle.hm_class_rules.specs.Rules.{Terms, IsLegal}
use Rattle.hm_class_rules.specs.Stepped.{IsStepped, cells}
use Rattle.hm_class_book.specs.declared.class_book.ClassBook.{ClassBook}
use Rattle.hm_class_book.specs.Said.{said}
use Rattle.hm_large_book.specs.Reached.{IsBookOf}
use Rattle.hm_heap.specs.Lawful.{arena_of, class_terms}
use Rattle.hm_check.specs.declared.region_book.RegionBook.{RegionBook}
use Rattle.hm_check.specs.declared.region_book.RegionBook.TheVariants.{Class, Large}
use Rattle.hm_check.specs.declared.verdict.JournalFault.{JournalFault}
use Rattle.hm_check.specs.declared.verdict.JournalFault.TheVariants.{BadText, NotLegal, NotDrawn}
use Rattle.hm_check.specs.Verdicts.{IsDrawnHistory, IsLegalHistory}

-- a region of a journal, which counts as told
abbrev pub told_origin : Config → ℕ → ℕ → Origin
told_origin c seed region = record { config = c; seed = seed; region = region; told = true }

abbrev pub terms_at : Config → ℕ → ℕ → Terms
terms_at c seed region = class_terms (told_origin c seed region)

-- the history of a class region is legal and drawn, and the book says what the region keeps after it
pub record IsClassBook (c : Config) (seed region : ℕ) (past : List Entry) (b : ClassBook) : Type 0 where
  pub small : region < large_region_number
  pub parks : 1 ≤ c.park_length
  pub shape : IsShape (terms_at c seed region).shape
  pub legal : IsLegal (terms_at c seed region) past
  pub stepped : IsStepped seed (arena_of region) (terms_at c seed region) past
  pub says : said b ≡ record {
    seed = seed;
    arena = arena_of region;
    terms = terms_at c seed region;
    cells = cells seed (arena_of region) (terms_at c seed region) past;
  }

-- the same of a region of either kind
abbrev pub IsBook : Config → ℕ → ℕ → List Entry → RegionBook → Type 0
IsBook c seed region past (Class b) = IsClassBook c seed region past b
IsBook c seed region past (Large b) = (region ≡ large_region_number) × IsBookOf c seed past b

pub record IsSomeBook (b : RegionBook) : Type 0 where
  pub config : Config
  pub seed : ℕ
  pub region : ℕ
  pub past : List Entry
  pub is : IsBook config seed region past b

-- what is said of an entry: nothing, and the book is that of the history with it; or why it may not come next
abbrev pub IsJudged : Config → ℕ → ℕ → List Entry → Entry → RegionBook → Option JournalFault → Type 0
IsJudged c seed region past e new None = IsLegalHistory (told_origin c seed region) (past ++ e ∷ [])
    × IsDrawnHistory (told_origin c seed region) (past ++ e ∷ []) × IsBook c seed region (past ++ e ∷ []) new
IsJudged c seed region past e new (Some BadText) = ⊥
IsJudged c seed region past e new (Some NotLegal) =
    IsLegalHistory (told_origin c seed region) (past ++ e ∷ []) → ⊥
IsJudged c seed region past e new (Some NotDrawn) = IsLegalHistory (told_origin c seed region) (past ++ e ∷ [])
    × (IsDrawnHistory (told_origin c seed region) (past ++ e ∷ []) → ⊥)
