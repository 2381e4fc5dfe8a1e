-- Pages in memory of which a list says which calls fail.
use Rattle.std.specs.Prelude.{◌≡◌, ℕ, ◌+◌, List, Bool, true, Some, length, refl, if◌then◌else◌}
use Rattle.std.specs.Coded.{Coded, code_by, coded×, coded_list, coded_ℕ}
use Rattle.std.specs.FinMap as map
use Rattle.hm_outside.specs.PageRuns.{PageRuns}
use Rattle.hm_outside.specs.Lends.{EndsWritten}
use Rattle.hm_outside.specs.Counts.{raised}
use Rattle.hm_fakes.specs.Numbered.{is_named}
use Rattle.hm_outside.specs.RunLists.{CanWrite}
use Rattle.hm_fakes.specs.PlainPages.{Plain, plain_code}
use Rattle.hm_fakes.specs.PlainRuns.{with_range}
use Rattle.hm_fakes.specs.PlainLaws.{range_written}

-- their region, their runs, the numbers of the calls that fail, how many calls were made, and how many of them failed
pub record Failing : Type 0 where
  pub region : ℕ
  pub runs : PageRuns
  pub fail_calls : List ℕ
  pub calls : ℕ
  pub faults : ℕ

-- stored as its fields
abbrev pub failing_code : Coded Failing
failing_code =
    code_by (Plain × (List ℕ × (ℕ × ℕ)))
    (coded× plain_code (coded× (coded_list coded_ℕ) (coded× coded_ℕ coded_ℕ)))
    (λ p. (record { region = p.region; runs = p.runs }, (p.fail_calls, (p.calls, p.faults))))
    (λ t. record {
      region = t.0.region;
      runs = t.0.runs;
      fail_calls = t.1.0;
      calls = t.1.1.0;
      faults = t.1.1.1;
    }) (λ _. refl)

-- pages of a region with nothing accessible, of which no call was made
abbrev pub fresh_failing : ℕ → List ℕ → Failing
fresh_failing region fail_calls =
    record { region = region; runs = map.empty; fail_calls = fail_calls; calls = 0; faults = 0 }

-- the next call of those that are numbered fails
abbrev pub fails_next : Failing → Bool
fails_next pages = is_named pages.fail_calls (raised pages.calls)

-- one more call was made, and nothing else but the runs and the count changed
pub record Numbers (old new : Failing) : Type 0 where
  pub region : new.region ≡ old.region
  pub list : new.fail_calls ≡ old.fail_calls
  pub calls : new.calls ≡ raised old.calls
  pub faults : new.faults ≡ (if fails_next old then old.faults + 1 else old.faults)

-- what they are once w was written over the range
abbrev pub failing_with_range : Failing → ℕ → ℕ → List ℕ → Failing
failing_with_range pages addr len w = record pages { runs = with_range pages.runs addr len w }

pub failing_written : (pages : Failing) (addr : ℕ) (w : List ℕ) → CanWrite pages.runs addr (length w)
    → EndsWritten {S = Failing} (λ p. true) (λ p. p.runs) (λ p. p.faults) (λ p. Some p.region) pages addr w
    (failing_with_range pages addr (length w) w)
failing_written pages addr w can = record {
  same_telling = refl;
  same_count = refl;
  same_owner = refl;
  over = (range_written pages.runs addr w can).over;
}
