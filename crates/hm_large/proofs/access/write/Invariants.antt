use Rattle.std.proofs.Common.{◌≡◌, ℕ, ◌+◌, IsTrue, List, take, Some}
use Rattle.std.specs.FinMap as map
use Rattle.hm_model.specs.Runs.{expand, total}
use Rattle.hm_outside.specs.PageRuns.{Lies}
use Rattle.hm_large.specs.Access.{AreDisjoint}
use Rattle.hm_large.proofs.Parts.{IsOver}
use Rattle.hm_large.proofs.access.write.Given as goal

abbrev pub invariant-loop-byte : goal.invariant-loop-byte
invariant-loop-byte g l = record {
  told : g.P.Pages.told l.pages ≡ g.P.Pages.told l.fn.pages;
  owner : g.P.Pages.owner l.pages ≡ g.P.Pages.owner l.fn.pages;
  count : g.P.Pages.faults l.pages ≡ g.P.Pages.faults l.fn.pages;
  at : l.at ≡ l.addr + total (take l.byte-index l.pairs);
  written : IsTrue (g.P.Pages.told l.fn.pages) → AreDisjoint (g.P.Pages.runs l.fn.pages) → (q : ℕ) (b : List ℕ) → map.get (g.P.Pages.runs l.fn.pages) q ≡ Some b
      → Lies q b l.addr (total l.pairs) → IsOver (g.P.Pages.runs l.fn.pages) q b l.addr (expand (take l.byte-index l.pairs)) (g.P.Pages.runs l.pages);
}
