use Rattle.std.proofs.Common.{◌≡◌, ◌-◌, ◌≤◌}
use Rattle.hm_class.specs.Access.{trap_in}
use Rattle.hm_class.proofs.access.first_trap.Given as goal

abbrev pub invariant-loop-at : goal.invariant-loop-at
invariant-loop-at l = record {
  later : l.addr ≤ l.at;
  same : trap_in l.identity.shape l.slabs.slabs l.addr l.len ≡ trap_in l.identity.shape l.slabs.slabs l.at (l.end - l.at);
}

abbrev pub decreases-loop-at : goal.decreases-loop-at
decreases-loop-at l = l.end - l.at
