-- Numbers that are made after each round, of the entries of a region that were there by then.
use Rattle.std.specs.Prelude.{◌≡◌, ℕ, ◌+◌, ◌<◌, nat_le, List, [], ◌∷◌, ◌++◌, length, map, slice_index_or, Result}
use Rattle.std.specs.List.{filter}
use Rattle.hm_base.specs.declared.memory.NoMemory.{NoMemory}
use Rattle.hm_model.specs.declared.entry.Entry.{Entry}
use Rattle.hm_report.specs.declared.results.Results.{Results}
use Rattle.hm_sizes.specs.declared.config.Config.{Config}
use Rattle.hm_trace.specs.Views.{ScriptView}
use Rattle.hm_turn.specs.Known.{Known, IsWhole}
use Rattle.hm_heap.specs.declared.changes.Changes.{Changes}
use Rattle.hm_heap.specs.declared.close.History.{History}
use Rattle.hm_heap.specs.Changes.{HasLooked}
use Rattle.hm_heap.specs.Passes.{PassView}
use Rattle.hm_replay.specs.Names.{Names}
use Rattle.hm_replay.specs.RoundOf.{LeavesRoot}
use Rattle.hm_replay.specs.Rounds.{AreOfCallers}
use Rattle.hm_replay.specs.Replays.{HasReplayed}

-- ---- entries
-- those that the turn at an index has seen
abbrev pub seen_of : List Known → ℕ → List Entry
seen_of ts index = slice_index_or (map (λ (t : Known). t.knows.seen) ts) index []

-- those of the history at an index
abbrev pub entries_at : List History → ℕ → List Entry
entries_at hs index = slice_index_or (map (λ (h : History). h.entries) hs) index []

-- those of the rounds up to this one
abbrev pub upto : ℕ → List Entry → List Entry
upto round es = filter (λ (e : Entry). nat_le e.who.round round) es

module _ (number : List Entry → ℕ) where
  -- ---- numbers
  -- that of the entries of the rounds up to each of these, of which the first has this number
  abbrev pub numbers_upto : ℕ → List (List ScriptView) → List Entry → List ℕ
  numbers_upto round [] es = []
  numbers_upto round (scripts ∷ rounds) es = number (upto round es) ∷ numbers_upto (round + 1) rounds es

  -- the entries behind those before them fall into one part for each round, as a history does, and the numbers are
  -- those of all entries up to the end of each part
  abbrev pub IsWatched : ℕ → List (List ScriptView) → List Entry → List Entry → List ℕ → Type 0
  IsWatched caller [] before es numbers = (es ≡ []) × (numbers ≡ [])
  IsWatched caller (scripts ∷ rounds) before es numbers =
      (these : List Entry) × (later : List Entry) × (others : List ℕ)
      × (es ≡ these ++ later)
      × AreOfCallers caller (length scripts) these
      × (numbers ≡ number (before ++ these) ∷ others)
      × IsWatched (caller + length scripts) rounds (before ++ these) later others

-- ---- laws
-- of a look at a region's entries: what the rounds have left of the first pass stays, and so does what it has seen
abbrev pub LooksKeep : Type 0
LooksKeep = (c : Config) (p q : PassView) (rounds : List (List ScriptView)) (results : List Results) (last : Names)
    (index from : ℕ) (result : Result Changes NoMemory)
    → HasReplayed c p rounds results last
    → q ≡ record p { turns = q.turns }
    → HasLooked p q index from result
    → HasReplayed c q rounds results last × ((other : ℕ) → seen_of q.turns other ≡ seen_of p.turns other)

-- of one more round: the numbers go on with that of all that was seen
abbrev pub NumbersGoOn : Type 0
NumbersGoOn = (c : Config) (p q : PassView) (rounds : List (List ScriptView)) (scripts : List ScriptView)
    (results : List Results) (names : Names) (index : ℕ) (number : List Entry → ℕ) (numbers : List ℕ)
    → HasReplayed c p rounds results names
    → LeavesRoot (length scripts) p q
    → IsWatched number 1 rounds [] (seen_of p.turns index) numbers
    → IsWatched number 1 (rounds ++ scripts ∷ []) [] (seen_of q.turns index)
    (numbers ++ number (seen_of q.turns index) ∷ [])

-- of the histories: where the number of what a history begins with is another one, the numbers are these, of the entries
-- of the rounds up to each one
abbrev pub NumbersClose : Type 0
NumbersClose = (c : Config) (p : PassView) (hs : List History) (rounds : List (List ScriptView))
    (results : List Results) (last : Names) (index : ℕ) (number meant : List Entry → ℕ) (numbers : List ℕ)
    → HasReplayed c p rounds results last
    → length hs ≡ length p.turns
    → ((r : ℕ) (t : Known) (h : History) → r < length p.turns
    → IsWhole (slice_index_or hs r h).entries (slice_index_or p.turns r t).knows)
    → IsWatched number 1 rounds [] (seen_of p.turns index) numbers
    → ((front later : List Entry) → entries_at hs index ≡ front ++ later → number front ≡ meant front)
    → numbers ≡ numbers_upto meant 1 rounds (entries_at hs index)
