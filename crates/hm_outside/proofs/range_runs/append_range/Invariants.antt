use Rattle.std.proofs.Common.{◌≡◌, ℕ, ◌+◌, ◌-◌, ◌<◌, ◌≤◌, IsTrue, List, ◌++◌, take, drop, Some}
use Rattle.std.specs.FinMap as map
use Rattle.hm_outside.specs.PageRuns.{Lies, IsHeld}
use Rattle.hm_model.specs.Runs.{expand, total}
use Rattle.hm_outside.proofs.range_runs.append_range.Given as goal

abbrev pub decreases-loop-done : goal.decreases-loop-done
decreases-loop-done g l = l.len - l.done

abbrev pub invariant-loop-done : goal.invariant-loop-done
invariant-loop-done g l = record {
  within : l.done ≤ l.len;
  held : IsTrue (g.P.Pages.told l.pages) → 0 < l.done → IsHeld (g.P.Pages.runs l.pages) l.addr l.len;
  count : total l.runs ≡ total l.fn.runs + l.done;
  read : IsTrue (g.P.Pages.told l.pages) → (q : ℕ) (b : List ℕ) → map.get (g.P.Pages.runs l.pages) q ≡ Some b → Lies q b l.addr l.len
      → expand l.runs ≡ expand l.fn.runs ++ take l.done (drop (l.addr - q) b);
}
