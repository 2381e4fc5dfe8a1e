-- What a run of a trace leaves: the history of each region, beside its pages.
use Rattle.std.specs.Prelude.{◌≡◌, ◌+◌, ℕ, List, length, slice_get, Some}
use Rattle.std.specs.List.{AllByRecursion as EachIs}
use Rattle.hm_outside.specs.declared.pages.Pages as pages
use Rattle.hm_report.specs.declared.results.Results.{Results}
use Rattle.hm_sizes.specs.Homes.{region_count}
use Rattle.hm_sizes.specs.Origins.{Origin}
use Rattle.hm_trace.specs.Views.{TraceView, scripts_of}
use Rattle.hm_heap.specs.declared.close.Closed.{Closed}
use Rattle.hm_heap.specs.declared.close.History.{History}
use Rattle.hm_heap.specs.Closes.{IsEnd}
use Rattle.hm_heap.specs.Passes.{region_at}
use Rattle.hm_replay.specs.Names.{Names}
use Rattle.hm_replay.specs.Replays.{AreReplayed}
use Rattle.hm_replay.specs.Rounds.{IsOfTrace}
use Rattle.hm_run.specs.declared.words.Options.{Options}
use Rattle.hm_run.specs.Words.{config_of}

module _ {P : Type 0} (meaning : pages.Ghosts P) (o : Options) where
  -- the region at an index: its configuration and seed are those of the words, and these are its pages
  abbrev pub origin_at : ℕ → P → Origin
  origin_at index kept = record {
    config = config_of o;
    seed = o.seed;
    region = region_at (config_of o) index;
    told = meaning.told kept;
  }

  -- there is a history for each region, by ascending number, beside its pages: it is legal, and its choices are drawn
  -- from the words of the region's stream; its count of faults is the pages' own; where they tell, their runs and bytes
  -- are what the history says
  pub record AreEnds (closed : Closed P) : Type 0 where
    pub histories : length closed.histories ≡ region_count (config_of o) + 1
    pub pages : length closed.pages ≡ length closed.histories
    pub each : (index : ℕ) (h : History) (p : P)
        → slice_get closed.histories index ≡ Some h → slice_get closed.pages index ≡ Some p
        → IsEnd meaning (origin_at index p) h p

  -- beside that: the histories hold each script's calls once, in order and round by round, with these results; and each
  -- entry is of a step of a script
  pub record IsReplayed (closed : Closed P) (trace : TraceView) (results : List Results) : Type 0 where
    pub ends : AreEnds closed
    pub names : Names
    pub rounds : AreReplayed (config_of o) closed.histories (scripts_of trace) results names
    pub entries : (index : ℕ) (h : History) → slice_get closed.histories index ≡ Some h
        → EachIs (IsOfTrace 1 1 (scripts_of trace)) h.entries
