-- Rounds one after another on a new heap: what is known of the first pass, and what the closed histories say.
use Rattle.std.specs.Prelude.{◌≡◌, true, ℕ, ◌+◌, ◌*◌, ◌<◌, ◌≤◌, sum_by, List, [], ◌∷◌, ◌++◌, length, slice_index_or}
use Rattle.std.specs.List.{list_all, AllByRecursion as EachIs}
use Rattle.hm_report.specs.declared.results.Results.{Results}
use Rattle.hm_report.specs.Findings.{ascends}
use Rattle.hm_sizes.specs.declared.config.Config.{Config}
use Rattle.hm_trace.specs.Limits.{most_threads}
use Rattle.hm_trace.specs.Traces.{is_round, total_steps}
use Rattle.hm_trace.specs.Views.{ScriptView}
use Rattle.hm_turn.specs.Known.{Lock, Known, IsWhole}
use Rattle.hm_heap.specs.declared.close.History.{History}
use Rattle.hm_heap.specs.Founds.{Founds}
use Rattle.hm_heap.specs.Passes.{PassView}
use Rattle.hm_replay.specs.Gains.{mine_of}
use Rattle.hm_replay.specs.Names.{Names, no_names}
use Rattle.hm_replay.specs.RoundOf.{ended_in, IsGathered, LeavesRoot}
use Rattle.hm_replay.specs.Uses.{Own}
use Rattle.hm_replay.specs.Rounds.{RunsRound, RunsRounds, InRounds, script_count, own_in, IsOfTrace}

-- the first pass after these rounds, which were the first ones: the results are those of the scripts, and each turn has
-- seen their entries round by round, and no others
pub record HasReplayed (c : Config) (p : PassView) (rounds : List (List ScriptView)) (results : List Results)
    (last : Names) : Type 0 where
  pub splits : p.splits ≡ script_count rounds
  pub gathered : IsGathered p
  pub own : (index : ℕ) → mine_of p.turns index ≡ []
  pub ran : RunsRounds c (ended_in p.turns) 1 1 no_names rounds results last
  pub seen : (r : ℕ) (t : Known) → r < length p.turns → InRounds 1 rounds (slice_index_or p.turns r t).knows.seen

-- the histories are those of these rounds
pub record AreReplayed (c : Config) (hs : List History) (rounds : List (List ScriptView)) (results : List Results)
    (last : Names) : Type 0 where
  pub ran : RunsRounds c (own_in hs) 1 1 no_names rounds results last
  pub histories : (r : ℕ) (h : History) → r < length hs → InRounds 1 rounds (slice_index_or hs r h).entries

-- ---- laws
-- of a new heap
abbrev pub NewReplays : Type 0
NewReplays = (c : Config) (locks : List Lock) (p : PassView)
    → length p.turns ≡ length locks
    → Founds locks p.turns
    → p.splits ≡ 0
    → HasReplayed c p [] [] no_names

-- of one more round
abbrev pub RoundsGoOn : Type 0
RoundsGoOn = (c : Config) (p q : PassView) (rounds : List (List ScriptView)) (scripts : List ScriptView)
    (results these : List Results) (names last : Names)
    → HasReplayed c p rounds results names
    → LeavesRoot (length scripts) p q
    → q.splits ≡ p.splits + length scripts
    → RunsRound c (ended_in q.turns) (p.splits + 1) (length rounds + 1) names names scripts these last
    → HasReplayed c q (rounds ++ scripts ∷ []) (results ++ these) last

-- of the histories that go on from what the first pass has seen, with nothing of others
abbrev pub ReplaysClose : Type 0
ReplaysClose = (c : Config) (p : PassView) (hs : List History) (rounds : List (List ScriptView))
    (results : List Results) (last : Names)
    → HasReplayed c p rounds results last
    → length hs ≡ length p.turns
    → ((r : ℕ) (t : Known) (h : History) → r < length p.turns
    → IsWhole (slice_index_or hs r h).entries (slice_index_or p.turns r t).knows)
    → AreReplayed c hs rounds results last

-- of each entry of the histories: it is of a step of a script
abbrev pub EntriesAreOfTrace : Type 0
EntriesAreOfTrace = (c : Config) (hs : List History) (rounds : List (List ScriptView)) (results : List Results)
    (last : Names)
    → AreReplayed c hs rounds results last
    → (r : ℕ) (h : History) → r < length hs → EachIs (IsOfTrace 1 1 rounds) (slice_index_or hs r h).entries

-- of how many entries there are: together at most five for each step
abbrev pub FewEntries : Type 0
FewEntries = (c : Config) (hs : List History) (rounds : List (List ScriptView)) (results : List Results)
    (last : Names)
    → AreReplayed c hs rounds results last
    → sum_by (λ (h : History). length h.entries) hs ≤ 5 * total_steps rounds

-- of the scripts of a round
abbrev pub RoundsAreSmall : Type 0
RoundsAreSmall = (scripts : List ScriptView) → is_round scripts ≡ true → length scripts ≤ most_threads

-- of the results' order, which is that of a report
abbrev pub ResultsAscend : Type 0
ResultsAscend = (c : Config) (own : ℕ → Own) (rounds : List (List ScriptView)) (results : List Results)
    (names last : Names)
    → list_all is_round rounds ≡ true
    → RunsRounds c own 1 1 names rounds results last
    → ascends results ≡ true
