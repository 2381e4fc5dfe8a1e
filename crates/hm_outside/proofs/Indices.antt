-- The index of a run that is told, and the runs once it was written over or cleared.
use Rattle.std.proofs.Common.{◌≡◌, ℕ, suc, ◌+◌, ◌-◌, ◌<◌, List, [], ◌∷◌, length, take, drop, set, true, false, cond, Option, Some, None, slice_get, refl, sym, ap, ◌∙◌, subst, arith, true≢false}
use Rattle.std.specs.Prelude.{IfSome, IfNone, IsTrue, ◌↔◌, is_some}
use Rattle.std.specs.Map.{values_of}
use Rattle.std.specs.Borrow.{Bor}
use Rattle.std.proofs.lemmas.List.{length-replicate}
use Rattle.std.proofs.lemmas.Option.{none-some, same_Some, slice_get-map}
use Rattle.std.proofs.lemmas.Cmp.{nat_cmp_total}
use Rattle.std.specs.Option.{option_map}
use Rattle.std.specs.Ordering.{nat_cmp, eq_by_cmp}
use Rattle.std.specs.FinMap as map
use Rattle.std.specs.FinMap.{find, get-from_entries}
use Rattle.hm_base.specs.Lists.{zeros}
use Rattle.hm_outside.specs.PageRuns.{PageRuns, Lies, Reads, ReadsFrom, IsHeld}
use Rattle.hm_outside.specs.RunLists.{Listed, runs_of, is_ordered, begun, last_of, run_at, CanWrite, with_run_over, with_range_by, IsPut, IsNowhere}
use Rattle.hm_outside.specs.RunLaws.{found, written_run}
use Rattle.hm_outside.specs.RunTables.{listed, IsTable, HasRange}
use Rattle.hm_outside.proofs.Ordered.{heads, sorted, stands, lies_at, entries_are}
use Rattle.hm_outside.proofs.RunEdits.{Edited, edit_set}

some_bytes : (runs : Listed) (q : ℕ) (b : List ℕ) → is_ordered runs ≡ true → find nat_cmp q runs ≡ Some b → 0 < length b
some_bytes [] q b e is = absurd (none-some b is)
some_bytes (run ∷ runs) q b e is =
    let h = heads run runs e in
    elim (eq_by_cmp nat_cmp q run.0) as (λ t. cond t (Some run.1) (find nat_cmp q runs) ≡ Some b → 0 < length b) [
      | true ↦ λ has. subst (λ (l : List ℕ). 0 < length l) (same_Some run.1 b has) h.some
      | false ↦ λ has. some_bytes runs q b h.rest has
    ] is

-- what a map has at an address
pub had : (o : Option (List ℕ)) → is_some o ≡ true → (b : List ℕ) × (o ≡ Some b)
had None is = absurd (true≢false (sym is))
had (Some b) is = (b, refl)

-- ---- in a table of things that each have a run
module _ {X : Type 0} (entry : X → ℕ × List ℕ) where
  -- what is told at an address is found in the list
  pub told_at : (runs : List X) (m : PageRuns) (q : ℕ) → runs_of (listed entry runs) ≡ m → find nat_cmp q (listed entry runs) ≡ map.get m q
  told_at runs m q view = sym (get-from_entries nat_cmp_total (listed entry runs) q) ∙ ap (λ (n : PageRuns). map.get n q) view

  pub told_found : (runs : List X) (m : PageRuns) (q : ℕ) (b : List ℕ) → runs_of (listed entry runs) ≡ m → map.get m q ≡ Some b → find nat_cmp q (listed entry runs) ≡ Some b
  told_found runs m q b view has = told_at runs m q view ∙ has

  -- what stands in the list is told
  pub here_told : (runs : List X) (m : PageRuns) (i : ℕ) (run : ℕ × List ℕ) → is_ordered (listed entry runs) ≡ true → runs_of (listed entry runs) ≡ m → slice_get (listed entry runs) i ≡ Some run → map.get m run.0 ≡ Some run.1
  here_told runs m i run e view here = ap (λ (n : PageRuns). map.get n run.0) (sym view) ∙ get-from_entries nat_cmp_total (listed entry runs) run.0 ∙ found (listed entry runs) i run (sorted (listed entry runs) e) here

  -- a run that is told stands at its index
  pub run_here :
      (runs : List X) (m : PageRuns) (first : ℕ) (b : List ℕ) → is_ordered (listed entry runs) ≡ true → runs_of (listed entry runs) ≡ m → map.get m first ≡ Some b
      → slice_get (listed entry runs) (begun (listed entry runs) first - 1) ≡ Some (first, b)
  run_here runs m first b e view has =
      let is = told_found runs m first b view has in
      let s = stands (listed entry runs) first first b e is (omega arith) (omega (arith, some_bytes (listed entry runs) first b e is)) in
      ap (λ (k : ℕ). slice_get (listed entry runs) k) (omega (arith, s.last)) ∙ s.here

  -- the run that stands there
  pub record Chosen (runs : List X) (i : ℕ) (run : ℕ × List ℕ) (x : X) : Type 0 where
    pub here : slice_get runs i ≡ Some x
    pub is : entry x ≡ run

  -- a run that is cleared
  pub cleared :
      (runs : List X) (m : PageRuns) (i first : ℕ) (b : List ℕ) (x new : X) → is_ordered (listed entry runs) ≡ true → runs_of (listed entry runs) ≡ m → Chosen runs i (first, b) x → (entry new).0 ≡ (entry x).0
      → (entry new).1 ≡ zeros (length (entry x).1) → Edited entry (set runs i new) (map.insert m first (zeros (length b)))
  cleared runs m i first b x new e view it same_first zero_bytes =
      let new_len : length (entry new).1 ≡ length (entry x).1 = ap (λ (l : List ℕ). length l) zero_bytes ∙ length-replicate (length (entry x).1) 0 in
      let edit = edit_set entry runs i x new e it.here same_first new_len in
      record {
        ordered = edit.ordered;
        told_is = edit.told_is ∙ ap (λ (r : PageRuns). map.insert r (entry x).0 (entry new).1) view
            ∙ ap (λ (l : List ℕ). map.insert m (entry x).0 l) zero_bytes
            ∙ ap (λ (r : ℕ × List ℕ). map.insert m r.0 (zeros (length r.1))) it.is;
      }

  pub reads_here :
      (runs : List X) (m : PageRuns) (i addr len : ℕ) (run : ℕ × List ℕ) (x : X) (slice : List ℕ) → is_ordered (listed entry runs) ≡ true → runs_of (listed entry runs) ≡ m → Chosen runs i run x → Lies run.0 run.1 addr len
      → slice ≡ take len (drop (addr - (entry x).0) (entry x).1) → Reads m addr len slice
  reads_here runs m i addr len run x slice e view it lies is = record {
    first = run.0;
    bytes = run.1;
    is_run = here_told runs m i run e view (slice_get-map entry runs i ∙ ap (λ (o : Option X). option_map entry o) it.here ∙ ap (λ (r : ℕ × List ℕ). Some r) it.is);
    lies = lies;
    value = is ∙ ap (λ (r : ℕ × List ℕ). take len (drop (addr - r.0) r.1)) it.is;
  }

  -- what stands in a range, where it lies in the last run that begins below
  pub piece_here :
      (runs : List X) (m : PageRuns) (i addr len from : ℕ) (x : X) (slice : List ℕ) → is_ordered (listed entry runs) ≡ true → runs_of (listed entry runs) ≡ m → slice_get runs i ≡ Some x → begun (listed entry runs) addr ≡ suc i
      → Lies (entry x).0 (entry x).1 addr len → slice ≡ take (length slice) (drop (addr - (entry x).0 + from) (entry x).1) → IsHeld m addr len × ReadsFrom m addr len from slice
  piece_here runs m i addr len from x slice e view here last lies is =
      let at : slice_get (listed entry runs) i ≡ Some (entry x) = slice_get-map entry runs i ∙ ap (λ (o : Option X). option_map entry o) here in (
        ((entry x).0, (entry x).1, here_told runs m i (entry x) e view at, lies),
        λ q b has within.
            (let s = lies_at (listed entry runs) addr len q b e (told_found runs m q b view has) within in
            let same : ◌≡◌ {A = Option (ℕ × List ℕ)} (Some (entry x)) (Some (q, b)) = sym at ∙ ap (λ (k : ℕ). slice_get (listed entry runs) k) (omega (arith, last, s.last)) ∙ s.here in
            is ∙ ap (λ (r : ℕ × List ℕ). take (length slice) (drop (addr - r.0 + from) r.1)) (same_Some (entry x) (q, b) same)),
      )

  -- the run in which a range lies stands in the list
  pub listed_here : (es : List (ℕ × X)) (addr len : ℕ) (x : X) → (h : HasRange entry es addr len x) → slice_get (listed entry (values_of es)) h.index ≡ Some (entry x)
  listed_here es addr len x h = slice_get-map entry (values_of es) h.index ∙ ap (λ (o : Option X). option_map entry o) h.here

  -- where the search finds a run, the range is held and can be written
  pub held_is :
      (es : List (ℕ × X)) (m : PageRuns) (addr len : ℕ) (run : Option (Bor X)) → runs_of (listed entry (values_of es)) ≡ m → IsTable entry es → IfSome run (λ r. HasRange entry es addr len r.now) → IfNone run (IsNowhere (listed entry (values_of es)) addr len)
      → IsTrue (is_some run) ↔ IsHeld m addr len
  held_is es m addr len None view t at miss = ((λ t. absurd (true≢false (sym t))), (λ held. absurd (miss held.0 held.1 (told_found (values_of es) m held.0 held.1 view held.2) held.3)))
  held_is es m addr len (Some r) view t at miss = (
    (λ _. ((entry r.now).0, (entry r.now).1, here_told (values_of es) m at.index (entry r.now) t.ordered view (listed_here es addr len r.now at), at.lies)),
    (λ held. refl),
  )

  pub can_is :
      (es : List (ℕ × X)) (m : PageRuns) (addr len : ℕ) (run : Option (Bor X)) → runs_of (listed entry (values_of es)) ≡ m → IsTable entry es → IfSome run (λ r. HasRange entry es addr len r.now) → IfNone run (IsNowhere (listed entry (values_of es)) addr len)
      → IsTrue (is_some run) ↔ CanWrite m addr len
  can_is es m addr len None view t at miss = (
    (λ t. absurd (true≢false (sym t))),
    (λ can. absurd (miss can.0.0 can.0.1 (told_found (values_of es) m can.0.0 can.0.1 view (written_run m addr len can)) can.2)),
  )
  can_is es m addr len (Some r) view t at miss = (
    (λ _. (entry r.now, ap (λ (es : Listed). run_at es addr) (ap map.entries (sym view) ∙ entries_are (listed entry (values_of es)) t.ordered) ∙ ap (last_of (listed entry (values_of es))) at.last ∙ listed_here es addr len r.now at, at.lies)),
    (λ can. refl),
  )

  -- a run that was written over
  pub written_over :
      (put : List ℕ → ℕ → ℕ → List ℕ → List ℕ) (runs : List X) (m : PageRuns) (i addr len : ℕ) (x new : X) (w : List ℕ) (can : CanWrite m addr len) → is_ordered (listed entry runs) ≡ true → runs_of (listed entry runs) ≡ m
      → Chosen runs i can.0 x → IsPut (entry x) (put (entry x).1 (addr - (entry x).0) len w) (entry new) → Edited entry (set runs i new) (with_range_by put m addr len w)
  written_over put runs m i addr len x new w can e view it is =
      let edit = edit_set entry runs i x new e it.here is.first (ap (λ (l : List ℕ). length l) is.bytes ∙ is.long) in
      record {
        ordered = edit.ordered;
        told_is = edit.told_is ∙ ap (λ (r : PageRuns). map.insert r (entry x).0 (entry new).1) view
            ∙ ap (λ (l : List ℕ). map.insert m (entry x).0 l) is.bytes
            ∙ ap (λ (r : ℕ × List ℕ). map.insert m r.0 (put r.1 (addr - r.0) len w)) it.is
            ∙ sym (ap (with_run_over put m addr len w) can.1);
      }
