-- What watches the rounds, after some of them.
use Rattle.std.specs.Prelude.{◌≡◌, ◌⊎◌, ℕ, Bool, true, false, List, [], length, ⊤, Result}
use Rattle.hm_base.specs.declared.memory.NoMemory.{NoMemory}
use Rattle.hm_model.specs.declared.entry.Entry.{Entry}
use Rattle.hm_model.specs.Changes.{changes_of, sizes, total_of}
use Rattle.hm_sizes.specs.declared.config.Config.{Config}
use Rattle.hm_turn.specs.Histories.{StartsWith}
use Rattle.hm_heap.specs.declared.changes.Changes.{Changes}
use Rattle.hm_heap.specs.Calls.{large_index}
use Rattle.hm_heap.specs.Changes.{HasLooked}
use Rattle.hm_heap.specs.Passes.{PassView}
use Rattle.hm_replay.specs.Watched.{seen_of}
use Rattle.hm_snapshot.specs.Shown.{shown_after}
use Rattle.hm_run.specs.declared.watching.Watch.{Watch}
use Rattle.hm_run.specs.declared.watching.Watcher.{Watcher}
use Rattle.hm_run.specs.declared.watching.Watcher.TheVariants.{Off, On}

-- ---- the large region
-- the entries of it that the pass has seen
abbrev pub large_seen : Config → PassView → List Entry
large_seen c p = seen_of p.turns (large_index c)

-- the sum of the sizes that the changes of these entries make
abbrev pub size_sum : List Entry → ℕ
size_sum es = total_of (sizes (changes_of es))

-- ---- watching
-- the changes of these entries are published, and no more, and the own map has taken them in
pub record Follows (w : Watch) (es : List Entry) : Type 0 where
  pub published : w.writer.list ≡ changes_of es
  pub none_waits : w.writer.waiting ≡ []
  pub own : w.own ≡ shown_after (changes_of es)
  pub upto : w.upto ≡ length es

-- it has followed the first ones of these entries
pub record FollowsFront (w : Watch) (es : List Entry) : Type 0 where
  pub front : List Entry
  pub begins : StartsWith es front
  pub follows : Follows w front

-- it is on
abbrev pub is_on : Watcher → Bool
is_on Off = false
is_on (On w) = true

-- the sums that it has read
abbrev pub totals_of : Watcher → List ℕ
totals_of Off = []
totals_of (On w) = w.totals.items

-- where it is on, it has followed these entries
abbrev pub Tracks : Watcher → List Entry → Type 0
Tracks Off es = ⊤
Tracks (On w) es = Follows w es

-- or the first ones of these
abbrev pub TracksFront : Watcher → List Entry → Type 0
TracksFront Off es = ⊤
TracksFront (On w) es = FollowsFront w es

-- ---- looks
-- the pass may have looked at the changes of the large region, and all else of it is as before
pub record MayHaveLooked (c : Config) (p q : PassView) : Type 0 where
  pub same : q ≡ record p { turns = q.turns }
  pub looked : (q ≡ p) ⊎ ((from : ℕ) × (found : Result Changes NoMemory) × HasLooked p q (large_index c) from found)
