-- Some bytes of a list in the place of as many: which byte then stands where.
use Rattle.std.proofs.Common.{◌≡◌, ℕ, [], ◌∷◌, ◌+◌, ◌-◌, ◌<◌, ◌≤◌, List, ◌++◌, length, take, drop, replicate, refl, sym, ap, ◌∙◌, arith, length-append}
use Rattle.std.proofs.lemmas.List.{length-take, length-drop, length-replicate, append_assoc, append-nil, take-append-drop, drop-drop, take_at, replicate-append-replicate, get_or-take, get_or-drop, get_or_append_left, get_or-append_right}
use Rattle.std.proofs.lemmas.Slice.{drop-append-drop}
use Rattle.std.specs.Prelude.{get_or}
use Rattle.hm_frames.specs.Part.{over, with_byte}

module _ (xs : List ℕ) (from len : ℕ) (w : List ℕ) (long : length w ≡ len) (le : from + len ≤ length xs) where
  front : length (take from xs) ≡ from
  front = omega (arith, le, length-take from xs)

  pub over_long : length (over xs from len w) ≡ length xs
  over_long = omega (arith, le, long, front, length-append (take from xs) (w ++ drop (from + len) xs), length-append w (drop (from + len) xs), length-drop (from + len) xs)

  pub over_before : (i : ℕ) → i < from → get_or (over xs from len w) i 0 ≡ get_or xs i 0
  over_before i lt = get_or_append_left (take from xs) (w ++ drop (from + len) xs) 0 i (omega (arith, front, lt)) ∙ get_or-take from xs i 0 lt

  pub over_inside : (i : ℕ) → from ≤ i → i < from + len → get_or (over xs from len w) i 0 ≡ get_or w (i - from) 0
  over_inside i low high =
      get_or-append_right (take from xs) (w ++ drop (from + len) xs) from i 0 front low
      ∙ get_or_append_left w (drop (from + len) xs) 0 (i - from) (omega (arith, low, high, long))

  pub over_after : (i : ℕ) → from + len ≤ i → get_or (over xs from len w) i 0 ≡ get_or xs i 0
  over_after i past =
      get_or-append_right (take from xs) (w ++ drop (from + len) xs) from i 0 front (omega (arith, past))
      ∙ get_or-append_right w (drop (from + len) xs) len (i - from) 0 long (omega (arith, past))
      ∙ get_or-drop (from + len) xs (i - from - len) 0
      ∙ ap (λ (k : ℕ). get_or xs k 0) (omega (arith, past))

-- bytes in their own place
pub over_same : (xs : List ℕ) (from len : ℕ) → over xs from len (take len (drop from xs)) ≡ xs
over_same xs from len =
    ap (λ (l : List ℕ). take from xs ++ (take len (drop from xs) ++ l)) (sym (drop-drop len from xs))
    ∙ ap (λ (l : List ℕ). take from xs ++ l) (take-append-drop len (drop from xs))
    ∙ take-append-drop from xs

-- the same range, named in another way
pub over_moved : (xs : List ℕ) (i n from len byte : ℕ) → i ≡ from → n ≡ len → over xs i n (replicate n byte) ≡ over xs from len (replicate len byte)
over_moved xs i n from len byte begin count = cc

drop_all : (xs : List ℕ) → drop (length xs) xs ≡ []
drop_all [] = refl
drop_all (x ∷ xs) = drop_all xs

-- one byte in the place of all
pub all_filled : (xs : List ℕ) (n byte : ℕ) → n ≡ length xs → with_byte xs 0 n byte ≡ replicate (length xs) byte
all_filled xs n byte is =
    ap (λ (k : ℕ × ℕ). replicate k.0 byte ++ drop k.1 xs) {x = (n, 0 + n)} {y = (length xs, length xs)} (λ j. (is j, end j))
    ∙ ap (λ (l : List ℕ). replicate (length xs) byte ++ l) (drop_all xs)
    ∙ append-nil (replicate (length xs) byte)
  where
    end : 0 + n ≡ length xs
    end = omega (arith, is)

-- one byte from one cell up to another
abbrev pub filled : List ℕ → ℕ → ℕ → ℕ → List ℕ
filled bytes byte from to = take from bytes ++ replicate (to - from) byte ++ drop to bytes

-- n more of them are written
pub filled_on : (bytes : List ℕ) (byte from at n : ℕ) → from ≤ at → at + n ≤ length bytes
    → over (filled bytes byte from at) at n (replicate n byte) ≡ filled bytes byte from (at + n)
filled_on bytes byte from at n low high =
    let first = take from bytes in
    let some : List ℕ = replicate (at - from) byte in
    let front = first ++ some in
    let more : List ℕ = replicate n byte in
    let rest = drop (at + n) bytes in
    let long : length front ≡ at = omega (arith, low, high, length-append first some, length-take from bytes, length-replicate {A = ℕ} (at - from) byte) in
    ap (λ (l : List ℕ). l ++ (more ++ drop (at + n) (front ++ drop at bytes))) (take_at front (drop at bytes) at long)
    ∙ ap (λ (l : List ℕ). front ++ (more ++ l)) (drop-append-drop at bytes front (at + n) (omega arith) long)
    ∙ sym (append_assoc front more rest)
    ∙ ap (λ (l : List ℕ). l ++ rest) (append_assoc first some more ∙ ap (λ (l : List ℕ). first ++ l) (replicate-append-replicate (at - from) n byte ∙ ap (λ (k : ℕ). replicate k byte) (omega (arith, low))))
