-- Equal bytes are appended to runs: the last run goes on, or one more stands at the end.
use Rattle.std.proofs.Common.{◌≡◌, ◌≢◌, ℕ, ◌+◌, ◌-◌, ◌<◌, ◌≤◌, ◌^◌, List, [], ◌∷◌, ◌++◌, length, take, drop, replicate, slice_set, slice_index_or, eqb, refl, sym, ap, ◌∙◌, subst, arith, append-nil, append_assoc, length-append, length-take, one-add}
use Rattle.std.specs.List.{refill}
use Rattle.std.proofs.lemmas.List.{length-set, take_at, replicate-append-replicate}
use Rattle.std.proofs.lemmas.Bool.{cond_both, eqb-true}
use Rattle.std.proofs.Math.Seq.{take-add}
use Rattle.hm_model.specs.Runs.{expand, total, AreApart, AreRuns}
use Rattle.hm_model.proofs.RunsOf.{in_front, length_expand}

-- the byte of the last run
abbrev last_byte : ℕ × ℕ → List (ℕ × ℕ) → ℕ
last_byte run [] = run.0
last_byte run (next ∷ runs) = last_byte next runs

-- the last run is longer
abbrev lengthened : ℕ × ℕ → List (ℕ × ℕ) → ℕ → List (ℕ × ℕ)
lengthened run [] k = (run.0, run.1 + k) ∷ []
lengthened run (next ∷ runs) k = run ∷ lengthened next runs k

-- the same as an item that is set
abbrev longer_at : List (ℕ × ℕ) → ℕ → ℕ → List (ℕ × ℕ)
longer_at runs i k = slice_set runs i ((slice_index_or runs i (0, 0)).0, (slice_index_or runs i (0, 0)).1 + k)

last_set : (run : ℕ × ℕ) (runs : List (ℕ × ℕ)) (k : ℕ) → longer_at (run ∷ runs) (length runs) k ≡ lengthened run runs k
last_set run [] k = refl
last_set run (next ∷ runs) k = ap (λ (l : List (ℕ × ℕ)). run ∷ l) (last_set next runs k)

last_is : (run : ℕ × ℕ) (runs : List (ℕ × ℕ)) → (slice_index_or (run ∷ runs) (length runs) (0, 0)).0 ≡ last_byte run runs
last_is run [] = refl
last_is run (next ∷ runs) = last_is next runs

last_below : (run : ℕ × ℕ) (runs : List (ℕ × ℕ)) → (slice_index_or (run ∷ runs) (length runs) (0, 0)).1 ≤ total (run ∷ runs)
last_below run [] = omega arith
last_below run (next ∷ runs) = omega (arith, last_below next runs)

bytes_longer : (run : ℕ × ℕ) (runs : List (ℕ × ℕ)) (k : ℕ) → expand (lengthened run runs k) ≡ expand (run ∷ runs) ++ replicate k (last_byte run runs)
bytes_longer run [] k =
    append-nil (replicate (run.1 + k) run.0) ∙ sym (replicate-append-replicate run.1 k run.0)
    ∙ ap (λ (l : List ℕ). l ++ replicate k run.0) (sym (append-nil (replicate run.1 run.0)))
bytes_longer run (next ∷ runs) k =
    ap (λ (l : List ℕ). replicate run.1 run.0 ++ l) (bytes_longer next runs k)
    ∙ sym (append_assoc (replicate run.1 run.0) (expand (next ∷ runs)) (replicate k (last_byte next runs)))

total_longer : (run : ℕ × ℕ) (runs : List (ℕ × ℕ)) (k : ℕ) → total (lengthened run runs k) ≡ total (run ∷ runs) + k
total_longer run [] k = omega arith
total_longer run (next ∷ runs) k = omega (arith, total_longer next runs k)

apart_longer : (run : ℕ × ℕ) (runs : List (ℕ × ℕ)) (k : ℕ) → AreApart (run ∷ runs) → AreApart (lengthened run runs k)
apart_longer run [] k h = omega (arith, h)
apart_longer run (next ∷ []) k h = (h.0, h.1, omega (arith, h.2))
apart_longer run (next ∷ third ∷ runs) k h = (h.0, h.1, apart_longer next (third ∷ runs) k h.2)

-- runs once k bytes were appended
pub record Appends (runs : List (ℕ × ℕ)) (byte k : ℕ) (new : List (ℕ × ℕ)) : Type 0 where
  pub runs_are : AreRuns new
  pub bytes : expand new ≡ expand runs ++ replicate k byte

-- the last run goes on
pub goes_on : (runs : List (ℕ × ℕ)) (i byte k : ℕ) → AreRuns runs → total runs + k < 2 ^ 64 → 0 < length runs → i ≡ length runs - 1
    → (slice_index_or runs i (0, 0)).0 ≡ byte → Appends runs byte k (longer_at runs i k)
goes_on [] i byte k are fits some at is = absurd (omega (arith, some))
goes_on (run ∷ runs) i byte k are fits some at is =
    let at' : i ≡ length runs = omega (arith, at) in
    let same = ap (λ (j : ℕ). longer_at (run ∷ runs) j k) at' ∙ last_set run runs k in
    let byte_is : last_byte run runs ≡ byte = sym (last_is run runs) ∙ ap (λ (j : ℕ). (slice_index_or (run ∷ runs) j (0, 0)).0) (sym at') ∙ is in
    record {
      runs_are = subst AreRuns (sym same) (apart_longer run runs k are.0, (let below : total (lengthened run runs k) < 2 ^ 64 = omega (arith, total_longer run runs k, fits) in below));
      bytes = ap expand same ∙ bytes_longer run runs k ∙ ap (λ (b : ℕ). expand (run ∷ runs) ++ replicate k b) byte_is;
    }

pub length_fits : (runs : List (ℕ × ℕ)) (i k : ℕ) → total runs + k < 2 ^ 64 → 0 < length runs → i ≡ length runs - 1 → (slice_index_or runs i (0, 0)).1 + k < 2 ^ 64
length_fits [] i k fits some at = absurd (omega (arith, some))
length_fits (run ∷ runs) i k fits some at =
    let at' : i ≡ length runs = omega (arith, at) in
    omega (arith, fits, last_below run runs, ap (λ (j : ℕ). (slice_index_or (run ∷ runs) j (0, 0)).1) at')

-- what a slice of all items leaves
pub all_lent : (runs slice : List (ℕ × ℕ)) (i k : ℕ) → slice ≡ runs → refill (length runs) runs (longer_at slice i k) ≡ longer_at runs i k
all_lent runs slice i k is =
    ap (λ (l : List (ℕ × ℕ)). refill (length runs) runs (longer_at l i k)) is
    ∙ take_at (longer_at runs i k) (drop (length (longer_at runs i k)) runs) (length runs) (length-set runs i _)

-- ---- one more run
expand_append : (runs more : List (ℕ × ℕ)) → expand (runs ++ more) ≡ expand runs ++ expand more
expand_append [] more = refl
expand_append (run ∷ runs) more =
    ap (λ (l : List ℕ). replicate run.1 run.0 ++ l) (expand_append runs more) ∙ sym (append_assoc (replicate run.1 run.0) (expand runs) (expand more))

total_append : (runs : List (ℕ × ℕ)) (byte k : ℕ) → total (runs ++ (byte, k) ∷ []) ≡ total runs + k
total_append [] byte k = omega arith
total_append (run ∷ runs) byte k = omega (arith, total_append runs byte k)

apart_append : (run : ℕ × ℕ) (runs : List (ℕ × ℕ)) (byte k : ℕ) → AreApart (run ∷ runs) → 1 ≤ k → last_byte run runs ≢ byte → AreApart (run ∷ runs ++ (byte, k) ∷ [])
apart_append run [] byte k h some other = (h, other, some)
apart_append run (next ∷ runs) byte k h some other = (h.0, h.1, apart_append next runs byte k h.2 some other)

pub one_more : (runs : List (ℕ × ℕ)) (i byte k : ℕ) → AreRuns runs → total runs + k < 2 ^ 64 → 1 ≤ k → i ≡ length runs - 1
    → (0 < length runs → (slice_index_or runs i (0, 0)).0 ≢ byte) → Appends runs byte k (runs ++ (byte, k) ∷ [])
one_more runs i byte k are fits some at other = record {
  runs_are = (apart runs are.0 at other, (let below : total (runs ++ (byte, k) ∷ []) < 2 ^ 64 = omega (arith, total_append runs byte k, fits) in below));
  bytes = expand_append runs ((byte, k) ∷ []) ∙ ap (λ (l : List ℕ). expand runs ++ l) (append-nil (replicate k byte));
}
  where
    apart : (runs : List (ℕ × ℕ)) → AreApart runs → i ≡ length runs - 1 → (0 < length runs → (slice_index_or runs i (0, 0)).0 ≢ byte) → AreApart (runs ++ (byte, k) ∷ [])
    apart [] h at other = some
    apart (run ∷ runs) h at other =
        let at' : i ≡ length runs = omega (arith, at) in
        apart_append run runs byte k h some (λ e. other (omega arith) (ap (λ (j : ℕ). (slice_index_or (run ∷ runs) j (0, 0)).0) at' ∙ last_is run runs ∙ e))

-- ---- bytes are appended from their front on
front_same : (byte : ℕ) (bytes : List ℕ) → take (in_front byte bytes) bytes ≡ replicate (in_front byte bytes) byte
front_same byte [] = refl
front_same byte (b ∷ bytes) =
    let n = in_front byte bytes in
    cond_both (eqb b byte) (1 + n) 0 (λ n. take n (b ∷ bytes) ≡ replicate n byte)
    (λ e. subst (λ (m : ℕ). take m (b ∷ bytes) ≡ replicate m byte) (sym (one-add n))
    (ap (λ (x : ℕ). x ∷ take n bytes) (eqb-true b byte e) ∙ ap (λ (l : List ℕ). byte ∷ l) (front_same byte bytes))) (λ e. refl)

pub more_taken : (bytes : List ℕ) (start byte len : ℕ) → len ≡ in_front byte (drop start bytes) → take start bytes ++ replicate len byte ≡ take (start + len) bytes
more_taken bytes start byte len is =
    ap (λ (l : List ℕ). take start bytes ++ l) (ap (λ (n : ℕ). replicate n byte) is ∙ sym (front_same byte (drop start bytes)) ∙ ap (λ (n : ℕ). take n (drop start bytes)) (sym is))
    ∙ sym (take-add start len bytes)

pub counted : (old new : List (ℕ × ℕ)) (bytes : List ℕ) (start : ℕ) → start ≤ length bytes → expand new ≡ expand old ++ take start bytes → total new ≡ total old + start
counted old new bytes start within is =
    omega (arith, within, length_expand new, length_expand old, ap (λ (l : List ℕ). length l) is, length-append (expand old) (take start bytes), length-take start bytes)
