use Rattle.std.proofs.Common.{◌≡◌, ◌≤◌, length, vec_len, vec_capacity}
use Rattle.hm_replay.specs.Names.{held}
use Rattle.hm_replay.proofs.Starts.{StartedTo}
use Rattle.hm_replay.proofs.round.start.Given as goal

abbrev pub invariant-loop-script : goal.invariant-loop-script
invariant-loop-script g l =
    StartedTo l.fn.setting.heap.now.locks l.fn.round_number l.fn.root l.root l.scripts (held l.fn.env) l.workers.items
    × ((vec_len l.workers ≡ l.script-index) × (length l.scripts ≤ vec_capacity l.workers))
