use Rattle.std.proofs.Common.{◌≡◌, ◌+◌, drop}
use Rattle.hm_model.specs.Runs.{total}
use Rattle.hm_model.proofs.runs.Runs.len.Given as goal

abbrev pub invariant-loop-len : goal.invariant-loop-len
invariant-loop-len l = l.bytes + total (drop l.len-index l.len-items) ≡ total l.len-items
