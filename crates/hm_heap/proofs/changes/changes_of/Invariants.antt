use Rattle.std.proofs.Common.{◌≡◌, take}
use Rattle.hm_model.specs.Changes.{changes_of}
use Rattle.hm_heap.proofs.changes.changes_of.Given as goal

abbrev pub invariant-loop-entry : goal.invariant-loop-entry
invariant-loop-entry l = l.list.items ≡ changes_of (take l.entry-index l.entries)
