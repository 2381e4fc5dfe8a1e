-- A write to pages in vectors changes the bytes that were lent, and nothing else.
use Rattle.std.specs.Prelude.{◌≡◌, ℕ, ◌+◌, ◌≤◌, List, ◌++◌, length, take, drop, true, None, refl}
use Rattle.std.proofs.Common.{sym, ap, ◌∙◌, arith, length-append}
use Rattle.std.proofs.lemmas.List.{length-take, length-drop, drop-drop, append_assoc, take_all, take-append-le}
use Rattle.hm_fakes.specs.declared.run.Run.{Run}
use Rattle.hm_base.specs.Lists.{written}
use Rattle.hm_outside.specs.PageRuns.{PageRuns}
use Rattle.hm_outside.specs.Lends.{EndsWritten}
use Rattle.hm_outside.specs.RunLists.{CanWrite, IsPut}
use Rattle.hm_outside.specs.RunLaws.{written_by}
use Rattle.hm_fakes.specs.PlainRuns.{put_over, with_range, entry, with_bytes}

-- where w fits, it is written as it is
pub put_exact : (b : List ℕ) (i : ℕ) (w : List ℕ) → i + length w ≤ length b → put_over b i (length w) w ≡ written b i w
put_exact b i w fits =
    let rest = drop (length w) (drop i b) in
    let long = length-append (take i b) (w ++ rest) in
    let long' = length-append w rest in
    let front = length-take i b in
    let back = length-drop (length w) (drop i b) in
    let back' = length-drop i b in
    take_all (length b) _ (omega arith)
    ∙ sym (append_assoc (take i b) w rest)
    ∙ ap (λ (l : List ℕ). take i b ++ w ++ l) (drop-drop (length w) i b)

-- the same of plain runs
pub range_written : (runs : PageRuns) (addr : ℕ) (w : List ℕ) → CanWrite runs addr (length w)
    → EndsWritten {S = PageRuns} (λ p. true) (λ p. p) (λ p. 0) (λ p. None) runs addr w
    (with_range runs addr (length w) w)
range_written = written_by put_over put_exact

-- a plain run that was written over
pub run_put : (run : Run) (from len : ℕ) (w : List ℕ) → from + len ≤ length run.bytes.items
    → IsPut (entry run) (put_over run.bytes.items from len w) (entry (with_bytes run from len w))
run_put run from len w within =
    let b = run.bytes.items in
    let rest = drop (length w) (drop from b) in
    let ws : List ℕ = take from b ++ (w ++ rest) in
    let long = length-append (take from b) (w ++ rest) in
    let long' = length-append w rest in
    let front = length-take from b in
    let back = length-drop (length w) (drop from b) in
    let back' = length-drop from b in
    record {
      first = refl;
      bytes = ap (λ (n : ℕ). take n (ws ++ drop (length ws) b)) run.bytes.ok.0
          ∙ take-append-le (length b) ws (drop (length ws) b) (omega arith);
      long = let cut = length-take (length b) ws in omega arith;
    }
