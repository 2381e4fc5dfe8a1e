-- Which parts of runs have bytes of their own in memory, by the first addresses of the runs.
use Rattle.std.specs.Prelude.{◌≡◌, ℕ, ◌-◌, List, Bool, Option, Some, None, refl}
use Rattle.std.specs.Coded.{Coded, code_by, coded×, coded_list, coded_bool, coded_ℕ}
use Rattle.std.specs.Ordering.{nat_cmp}
use Rattle.std.specs.FinMap as map
use Rattle.std.specs.FinMap.{FinMap}
use Rattle.hm_outside.specs.PageRuns.{PageRuns, Lies}
use Rattle.hm_outside.specs.RunLists.{run_at, with_range_by}

-- whether each part of a run, in order, has bytes of its own
abbrev pub OwnParts : Type 0
OwnParts = FinMap nat_cmp (List Bool)

-- the bytes of each run, and which of its parts have bytes of their own
pub record KeptRuns : Type 0 where
  pub runs : PageRuns
  pub own : OwnParts

-- stored as its fields
abbrev pub kept_code : Coded KeptRuns
kept_code =
    code_by (PageRuns × OwnParts)
    (coded× (map.code coded_ℕ (coded_list coded_ℕ)) (map.code coded_ℕ (coded_list coded_bool)))
    (λ k. (k.runs, k.own)) (λ t. record { runs = t.0; own = t.1 }) (λ _. refl)

-- no run
abbrev pub no_runs : KeptRuns
no_runs = record { runs = map.empty; own = map.empty }

-- lent is what a lend of so many bytes from a place on makes of a run's parts
module _ (lent : List Bool → ℕ → ℕ → List Bool) where
  abbrev pub with_parts_lent : OwnParts → ℕ → ℕ → ℕ → Option (List Bool) → OwnParts
  with_parts_lent own first from len None = own
  with_parts_lent own first from len (Some parts) = map.insert own first (lent parts from len)

  -- the range was lent, in this run
  abbrev pub with_run_lent : OwnParts → ℕ → ℕ → Option (ℕ × List ℕ) → OwnParts
  with_run_lent own addr len None = own
  with_run_lent own addr len (Some run) = with_parts_lent own run.0 (addr - run.0) len (map.get own run.0)

  -- what runs are once the range was lent and w written over it, as put writes
  abbrev pub lent_with : (List ℕ → ℕ → ℕ → List ℕ → List ℕ) → KeptRuns → ℕ → ℕ → List ℕ → KeptRuns
  lent_with put kept addr len w = record {
    runs = with_range_by put kept.runs addr len w;
    own = with_run_lent kept.own addr len (run_at (map.entries kept.runs) addr);
  }

-- filled relates a run's parts before and after one byte was written over so many from a place on: here over a range
pub record FillsOwn (filled : List Bool → ℕ → ℕ → List Bool → Type 0) (kept : KeptRuns) (addr len : ℕ) (new : OwnParts) : Type 0 where
  pub first : ℕ
  pub bytes : List ℕ
  pub is_run : map.get kept.runs first ≡ Some bytes
  pub lies : Lies first bytes addr len
  pub before : List Bool
  pub had : map.get kept.own first ≡ Some before
  pub after : List Bool
  pub is_filled : filled before (addr - first) len after
  pub value : new ≡ map.insert kept.own first after
