-- Bytes beside the runs that stand for them, run by run.
use Rattle.std.proofs.Common.{◌≡◌, ℕ, ◌+◌, ◌-◌, ◌<◌, ◌≤◌, List, [], ◌∷◌, ◌++◌, length, take, drop, replicate, get_or, refl, sym, ◌∙◌, ap, arith, append_assoc, length-append, length-take, length-drop}
use Rattle.std.proofs.lemmas.List.{take_at, take-append-drop, drop-drop, drop-take, length-replicate, take-replicate, drop-replicate, replicate-append-replicate}
use Rattle.std.proofs.lemmas.Slice.{drop-append-drop}
use Rattle.std.proofs.Math.Seq.{take-add, drop-append_seam, take-append_seam}
use Rattle.hm_base.specs.Lists.{written}
use Rattle.hm_frames.specs.Part.{with_byte}
use Rattle.hm_model.specs.Runs.{expand}
use Rattle.hm_model.proofs.RunsOf.{length_expand}
use Rattle.hm_large.proofs.Parts.{expand_front, total_within}

-- ---- bytes that are written over
written_length : (b : List ℕ) (i : ℕ) (w : List ℕ) → i + length w ≤ length b → length (written b i w) ≡ length b
written_length b i w fits =
    omega (arith, fits, length-append (take i b ++ w) (drop (i + length w) b), length-append (take i b) w, length-take i b, length-drop (i + length w) b)

two_written : (b : List ℕ) (i : ℕ) (w v : List ℕ) → i + (length w + length v) ≤ length b → written (written b i w) (i + length w) v ≡ written b i (w ++ v)
two_written b i w v fits =
    let front = take i b ++ w in
    let rest = drop (i + length w) b in
    let long : length front ≡ i + length w = omega (arith, fits, length-append (take i b) w, length-take i b) in
    let past : i + length w + length v ≡ i + length (w ++ v) = omega (arith, length-append w v) in
    ap (λ (l : List ℕ). l ++ v ++ drop (i + length w + length v) (front ++ rest)) (take_at front rest (i + length w) long)
    ∙ ap (λ (l : List ℕ). front ++ v ++ l) (drop-append-drop (i + length w) b front (i + length w + length v) (omega arith) long ∙ ap (λ (n : ℕ). drop n b) past)
    ∙ ap (λ (l : List ℕ). l ++ drop (i + length (w ++ v)) b) (append_assoc (take i b) w v)

expand_both : (runs more : List (ℕ × ℕ)) {all : List (ℕ × ℕ)} → runs ++ more ≡ all → expand all ≡ expand runs ++ expand more
expand_both runs more e = ap expand (sym e) ∙ joined runs more
  where
    joined : (runs more : List (ℕ × ℕ)) → expand (runs ++ more) ≡ expand runs ++ expand more
    joined [] more = refl
    joined (run ∷ runs) more = ap (λ (l : List ℕ). replicate run.1 run.0 ++ l) (joined runs more) ∙ sym (append_assoc (replicate run.1 run.0) (expand runs) (expand more))

module _ (pairs : List (ℕ × ℕ)) (i byte n : ℕ) (lt : i < length pairs) (is : (byte, n) ≡ get_or pairs i (0, 0)) where
  pub front : expand (take (i + 1) pairs) ≡ expand (take i pairs) ++ replicate n byte
  front = expand_front pairs i lt ∙ ap (λ (r : ℕ × ℕ). expand (take i pairs) ++ replicate r.1 r.0) (sym is)

  pub next_length : length (expand (take (i + 1) pairs)) ≡ length (expand (take i pairs)) + n
  next_length = ap (λ (l : List ℕ). length l) front ∙ length-append (expand (take i pairs)) (replicate n byte) ∙ ap (λ (k : ℕ). length (expand (take i pairs)) + k) (length-replicate {A = ℕ} n byte)

  pub next_within : length (expand (take i pairs)) + n ≤ length (expand pairs)
  next_within = omega (arith, length_expand (take i pairs), length_expand pairs, total_within pairs i lt, ap (λ (r : ℕ × ℕ). r.1) is)

  -- the next bytes are those of the run
  pub next_alike : (at : ℕ) (bytes : List ℕ) → take at bytes ≡ expand (take i pairs) → take n (drop at bytes) ≡ replicate n byte → take (at + n) bytes ≡ expand (take (i + 1) pairs)
  next_alike at bytes so_far part = take-add at n bytes ∙ (λ j. so_far j ++ part j) ∙ sym front

  -- so they are where all bytes are those of the runs
  pub part_alike : (at : ℕ) (bytes : List ℕ) → at ≡ length (expand (take i pairs)) → expand pairs ≡ bytes → take n (drop at bytes) ≡ replicate n byte
  part_alike at bytes at_is all =
      let rest = expand (drop (i + 1) pairs) in
      let split : expand pairs ≡ expand (take i pairs) ++ (replicate n byte ++ rest) = expand_both (take (i + 1) pairs) (drop (i + 1) pairs) (take-append-drop (i + 1) pairs) ∙ ap (λ (l : List ℕ). l ++ rest) front ∙ append_assoc (expand (take i pairs)) (replicate n byte) rest in
      ap (λ (l : List ℕ). take n (drop at l)) (sym all ∙ split)
      ∙ ap (λ (k : ℕ). take n (drop k (expand (take i pairs) ++ (replicate n byte ++ rest)))) at_is
      ∙ ap (take n) (drop-append_seam (expand (take i pairs)) (replicate n byte ++ rest))
      ∙ ap (λ (k : ℕ). take k (replicate n byte ++ rest)) (sym (length-replicate {A = ℕ} n byte))
      ∙ take-append_seam (replicate n byte) rest

  -- ---- from an offset on
  pub run_alike : (b : List ℕ) (from at : ℕ) → at ≡ from + length (expand (take i pairs)) → take (length (expand (take i pairs))) (drop from b) ≡ expand (take i pairs) → take n (drop at b) ≡ replicate n byte
      → take (length (expand (take (i + 1) pairs))) (drop from b) ≡ expand (take (i + 1) pairs)
  run_alike b from at at_is so_far part =
      let count = length (expand (take i pairs)) in
      ap (λ (k : ℕ). take k (drop from b)) next_length
      ∙ next_alike count (drop from b) so_far (ap (take n) (drop-drop count from b ∙ ap (λ (k : ℕ). drop k b) (sym at_is)) ∙ part)

  pub run_there : (b : List ℕ) (from at : ℕ) → at ≡ from + length (expand (take i pairs)) → from + length (expand pairs) ≤ length b → expand pairs ≡ take (length (expand pairs)) (drop from b)
      → take n (drop at b) ≡ replicate n byte
  run_there b from at at_is fits all =
      let count = length (expand (take i pairs)) in
      let rest = length (expand pairs) - (count + n) in
      let total : length (expand pairs) ≡ count + (n + rest) = omega (arith, next_within) in
      let long : length (take n (drop at b)) ≡ n = omega (arith, next_within, at_is, fits, length-take n (drop at b), length-drop at b) in
      sym (take_at (take n (drop at b)) (take rest (drop n (drop at b))) n long)
      ∙ ap (take n) (sym (take-add n rest (drop at b)))
      ∙ ap (λ (k : ℕ). take n (take (n + rest) (drop k b))) at_is
      ∙ ap (λ (l : List ℕ). take n (take (n + rest) l)) (sym (drop-drop count from b))
      ∙ ap (take n) (sym (drop-take count (n + rest) (drop from b)))
      ∙ ap (λ (k : ℕ). take n (drop count (take k (drop from b)))) (sym total)
      ∙ part_alike count (take (length (expand pairs)) (drop from b)) refl all

  -- ---- written from an offset on
  pub runs_on : (b : List ℕ) (from at : ℕ) (now new : List ℕ) → at ≡ from + length (expand (take i pairs)) → from + length (expand pairs) ≤ length b → now ≡ written b from (expand (take i pairs))
      → new ≡ with_byte now at n byte → new ≡ written b from (expand (take (i + 1) pairs))
  runs_on b from at now new at_is fits so_far is =
      let w = expand (take i pairs) in
      is ∙ sym (append_assoc (take at now) (replicate n byte) (drop (at + n) now))
      ∙ ap (λ (k : ℕ). take at now ++ replicate n byte ++ drop (at + k) now) (sym (length-replicate {A = ℕ} n byte))
      ∙ ap (λ (l : List ℕ). written l at (replicate n byte)) so_far
      ∙ ap (λ (k : ℕ). written (written b from w) k (replicate n byte)) at_is
      ∙ two_written b from w (replicate n byte) (omega (arith, fits, next_within, length-replicate {A = ℕ} n byte))
      ∙ ap (written b from) (sym front)

  pub runs_fit : (b : List ℕ) (from at : ℕ) (now : List ℕ) → at ≡ from + length (expand (take i pairs)) → from + length (expand pairs) ≤ length b → now ≡ written b from (expand (take i pairs))
      → at + n ≤ length now
  runs_fit b from at now at_is fits so_far =
      omega (arith, at_is, fits, next_within, ap (λ (l : List ℕ). length l) so_far, written_length b from (expand (take i pairs)) (omega (arith, fits, next_within)))

-- ---- one byte over a range, piece by piece
pub piece_on : (b : List ℕ) (from done byte : ℕ) (piece : List ℕ) → piece ≡ take (length piece) (drop (from + done) b) → take done (drop from b) ≡ replicate done byte → piece ≡ replicate (length piece) byte
    → take (done + length piece) (drop from b) ≡ replicate (done + length piece) byte
piece_on b from done byte piece is so_far all =
    take-add done (length piece) (drop from b)
    ∙ ap (λ (l : List ℕ). l ++ take (length piece) (drop done (drop from b))) so_far
    ∙ ap (λ (l : List ℕ). replicate done byte ++ l) (ap (take (length piece)) (drop-drop done from b) ∙ sym is ∙ all)
    ∙ replicate-append-replicate done (length piece) byte

pub piece_there : (b : List ℕ) (from len done byte : ℕ) (piece : List ℕ) → piece ≡ take (length piece) (drop (from + done) b) → done ≤ len → length piece ≤ len - done → take len (drop from b) ≡ replicate len byte
    → piece ≡ replicate (length piece) byte
piece_there b from len done byte piece is within fits all =
    let k = length piece in
    let rest = len - (done + k) in
    let total : len ≡ done + (k + rest) = omega (arith, within, fits) in
    let part : take k (take (k + rest) (drop (from + done) b)) ≡ replicate k byte =
    ap (λ (l : List ℕ). take k (take (k + rest) l)) (sym (drop-drop done from b))
    ∙ ap (take k) (sym (drop-take done (k + rest) (drop from b)))
    ∙ ap (λ (m : ℕ). take k (drop done (take m (drop from b)))) (sym total)
    ∙ ap (λ (l : List ℕ). take k (drop done l)) all
    ∙ ap (take k) (drop-replicate done len byte)
    ∙ take-replicate k (len - done) byte fits in
    let front : take k (take (k + rest) (drop (from + done) b)) ≡ piece =
    ap (take k) (take-add k rest (drop (from + done) b))
    ∙ ap (λ (l : List ℕ). take k (l ++ take rest (drop k (drop (from + done) b)))) (sym is)
    ∙ take_at piece (take rest (drop k (drop (from + done) b))) k refl in
    sym front ∙ part

-- ---- equal bytes, byte by byte
