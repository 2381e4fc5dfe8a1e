use Rattle.std.proofs.Common.{◌≡◌, true, [], map, take}
use Rattle.hm_heap.specs.Passes.{AreOf}
use Rattle.hm_replay.specs.Names.{held}
use Rattle.hm_replay.specs.Replays.{HasReplayed}
use Rattle.hm_replay.specs.Watched.{IsWatched}
use Rattle.hm_run.specs.Watches.{large_seen, size_sum, is_on, totals_of, Tracks}
use Rattle.hm_run.proofs.rounds.run_rounds.Given as goal

-- the rounds so far were run, and the names are those that they have left; where they are watched, there is a sum for each
abbrev pub invariant-loop-index : goal.invariant-loop-index
invariant-loop-index g l = record {
  of : AreOf l.setting.heap.now.locks l.root.turns;
  caller : l.root.caller ≡ 0;
  out : l.root.out ≡ 0;
  ran : HasReplayed l.setting.heap.now.config l.root (map (λ r. r.scripts) (take l.index l.rounds)) l.all.items (held l.env);
  on : is_on l.watcher ≡ is_on l.fn.watcher;
  tracks : Tracks l.watcher (large_seen l.setting.heap.now.config l.root);
  watched : is_on l.fn.watcher ≡ true
      → IsWatched size_sum 1 (map (λ r. r.scripts) (take l.index l.rounds)) [] (large_seen l.setting.heap.now.config l.root) (totals_of l.watcher);
}
