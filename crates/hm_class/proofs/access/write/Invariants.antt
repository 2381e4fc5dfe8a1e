use Rattle.std.proofs.Common.{◌≡◌, ◌+◌, ◌≤◌, ◌++◌, ℕ, List, IsTrue, drop, length}
use Rattle.hm_model.specs.Runs.{expand, total}
use Rattle.hm_class_rules.specs.State.{State}
use Rattle.hm_class_rules.specs.Bytes.{write}
use Rattle.hm_class.specs.Access.{HaveBytes}
use Rattle.hm_class.specs.Region.{HoldsSlabs}
use Rattle.hm_class.proofs.access.write.Given as goal

abbrev pub invariant-loop-byte : goal.invariant-loop-byte
invariant-loop-byte g l = record {
  later : l.addr ≤ l.at;
  left : l.at + total (drop l.byte-index l.pairs) ≡ l.addr + total l.pairs;
  told : g.P.Pages.told l.pages ≡ g.P.Pages.told l.fn.pages;
  owner : g.P.Pages.owner l.pages ≡ g.P.Pages.owner l.fn.pages;
  count : g.P.Pages.faults l.pages ≡ g.P.Pages.faults l.fn.pages;
  written : IsTrue (g.P.Pages.told l.fn.pages) → (s : State) → HoldsSlabs l.identity.shape s.opens (g.P.Pages.runs l.fn.pages) → HaveBytes l.identity.shape s l.addr (total l.pairs)
      → (w : List ℕ) × (w ++ expand (drop l.byte-index l.pairs) ≡ expand l.pairs) × (l.addr + length w ≡ l.at) × HoldsSlabs l.identity.shape (write l.identity.shape l.addr w s).opens (g.P.Pages.runs l.pages);
}
