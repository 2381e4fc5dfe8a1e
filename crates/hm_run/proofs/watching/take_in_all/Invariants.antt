use Rattle.std.proofs.Common.{◌≡◌, drop, fold}
use Rattle.hm_snapshot.specs.Shown.{absorbed}
use Rattle.hm_run.proofs.watching.take_in_all.Given as goal

-- what the rest makes of the map so far is what all make of the one before
abbrev pub invariant-loop-change : goal.invariant-loop-change
invariant-loop-change l = fold absorbed l.own (drop l.change-index l.list) ≡ fold absorbed l.fn.own l.list
