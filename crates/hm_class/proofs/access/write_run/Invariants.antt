use Rattle.std.proofs.Common.{◌≡◌, ◌-◌, ◌≤◌, IsTrue, replicate}
use Rattle.hm_class_rules.specs.State.{State}
use Rattle.hm_class_rules.specs.Bytes.{write}
use Rattle.hm_class.specs.Access.{HaveBytes}
use Rattle.hm_class.specs.Region.{HoldsSlabs}
use Rattle.hm_class.proofs.access.write_run.Given as goal

abbrev pub decreases-loop-at : goal.decreases-loop-at
decreases-loop-at g l = l.end - l.at

abbrev pub invariant-loop-at : goal.invariant-loop-at
invariant-loop-at g l = record {
  later : l.addr ≤ l.at;
  within : l.at ≤ l.end;
  told : g.P.Pages.told l.pages ≡ g.P.Pages.told l.fn.pages;
  owner : g.P.Pages.owner l.pages ≡ g.P.Pages.owner l.fn.pages;
  count : g.P.Pages.faults l.pages ≡ g.P.Pages.faults l.fn.pages;
  written : IsTrue (g.P.Pages.told l.fn.pages) → (s : State) → HoldsSlabs l.identity.shape s.opens (g.P.Pages.runs l.fn.pages) → HaveBytes l.identity.shape s l.addr l.len
      → HoldsSlabs l.identity.shape (write l.identity.shape l.addr (replicate (l.at - l.addr) l.byte) s).opens (g.P.Pages.runs l.pages);
}
