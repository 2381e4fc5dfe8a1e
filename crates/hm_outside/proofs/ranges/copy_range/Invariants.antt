use Rattle.std.proofs.Common.{◌≡◌, ℕ, ◌-◌, ◌<◌, ◌≤◌, IsTrue, List, length, take, drop, Some}
use Rattle.std.specs.FinMap as map
use Rattle.hm_outside.specs.PageRuns.{IsHeld, Lies}
use Rattle.hm_outside.proofs.ranges.copy_range.Given as goal

abbrev pub decreases-loop-done : goal.decreases-loop-done
decreases-loop-done g l = l.len - l.done

abbrev pub invariant-loop-done : goal.invariant-loop-done
invariant-loop-done g l = record {
  within : l.done ≤ l.len;
  count : length l.into ≡ l.len;
  held : IsTrue (g.P.Pages.told l.pages) → 0 < l.done → IsHeld (g.P.Pages.runs l.pages) l.addr l.len;
  read : IsTrue (g.P.Pages.told l.pages) → (q : ℕ) (b : List ℕ) → map.get (g.P.Pages.runs l.pages) q ≡ Some b → Lies q b l.addr l.len
      → take l.done l.into ≡ take l.done (drop (l.addr - q) b);
}
