-- Pages in memory that say to which region they belong.
use Rattle.std.specs.Prelude.{ℕ, List, Some, true, length, refl}
use Rattle.std.specs.Coded.{Coded, code_by, coded×, coded_list, coded_ℕ}
use Rattle.std.specs.FinMap as map
use Rattle.hm_outside.specs.PageRuns.{PageRuns}
use Rattle.hm_outside.specs.Lends.{EndsWritten}
use Rattle.hm_outside.specs.RunLists.{CanWrite}
use Rattle.hm_fakes.specs.PlainRuns.{with_range}
use Rattle.hm_fakes.specs.PlainLaws.{range_written}

-- the region, and the bytes of each accessible run, by its first address
pub record Plain : Type 0 where
  pub region : ℕ
  pub runs : PageRuns

-- stored as its fields
abbrev pub plain_code : Coded Plain
plain_code =
    code_by (ℕ × PageRuns) (coded× coded_ℕ (map.code coded_ℕ (coded_list coded_ℕ)))
    (λ p. (p.region, p.runs)) (λ t. record { region = t.0; runs = t.1 }) (λ _. refl)

-- pages of a region with nothing accessible
abbrev pub fresh_plain : ℕ → Plain
fresh_plain region = record { region = region; runs = map.empty }

-- what they are once w was written over the range
abbrev pub plain_with_range : Plain → ℕ → ℕ → List ℕ → Plain
plain_with_range pages addr len w = record pages { runs = with_range pages.runs addr len w }

pub plain_written : (pages : Plain) (addr : ℕ) (w : List ℕ) → CanWrite pages.runs addr (length w)
    → EndsWritten {S = Plain} (λ p. true) (λ p. p.runs) (λ p. 0) (λ p. Some p.region) pages addr w
    (plain_with_range pages addr (length w) w)
plain_written pages addr w can = record {
  same_telling = refl;
  same_count = refl;
  same_owner = refl;
  over = (range_written pages.runs addr w can).over;
}
