use Rattle.std.proofs.Common.{◌≡◌, ℕ, ◌-◌, ◌≤◌, IsTrue, List, take, drop, Some, None}
use Rattle.std.specs.FinMap as map
use Rattle.hm_outside.specs.PageRuns.{Lies}
use Rattle.hm_class_rules.specs.Bytes.{first_nonzero}
use Rattle.hm_class.proofs.slot_bytes.first_nonzero.Given as goal

abbrev pub decreases-loop-done : goal.decreases-loop-done
decreases-loop-done g l = l.len - l.done

abbrev pub invariant-loop-done : goal.invariant-loop-done
invariant-loop-done g l = record {
  within : l.done ≤ l.len;
  zero : IsTrue (g.P.Pages.told l.pages) → (q : ℕ) (b : List ℕ) → map.get (g.P.Pages.runs l.pages) q ≡ Some b → Lies q b l.addr l.len → first_nonzero (take l.done (drop (l.addr - q) b)) ≡ None;
}
