-- What stands at the raw_cells of a block once some of them were written.
use Rattle.std.proofs.Common.{◌≡◌, ℕ, zero, suc, ◌+◌, ◌-◌, ◌<◌, ◌≤◌, List, [], ◌∷◌, ◌++◌, map, length, length-append, take, drop, replicate, Option, Some, None, true, refl, sym, ap, ◌∙◌, arith}
use Rattle.std.proofs.lemmas.List.{length-take, length-drop, length-map, length-replicate, take_at, append_assoc, get_or-take, get_or-drop}
use Rattle.std.proofs.lemmas.Bool.{false≢true}
use Rattle.std.proofs.lemmas.Slice.{drop-append-drop}
use Rattle.std.specs.Prelude.{get_or, is_some}
use Rattle.hm_frames.specs.RawCells.{byte_of, bytes_of, with_raw_cells}

snoc : (byte n : ℕ) (rest : List (Option ℕ)) → map Some (replicate n byte) ++ (Some byte ∷ rest) ≡ map Some (replicate (suc n) byte) ++ rest
snoc byte zero rest = refl
snoc byte (suc n) rest = ap (λ (l : List (Option ℕ)). Some byte ∷ l) (snoc byte n rest)

-- one more of a byte after some
pub fill_more : (byte : ℕ) (xs : List (Option ℕ)) (from i : ℕ) → from + i < length xs
    → take (from + i) (with_raw_cells xs from i (replicate i byte)) ++ (Some byte ∷ drop (from + i + 1) (with_raw_cells xs from i (replicate i byte)))
    ≡ with_raw_cells xs from (i + 1) (replicate (i + 1) byte)
fill_more byte xs from i lt =
    let front = take from xs in
    let zs₀ : List ℕ = replicate i byte in
    let zs : List (Option ℕ) = map Some zs₀ in
    let rest = drop (from + i) xs in
    let last = drop (from + i + 1) xs in
    let long : length (front ++ zs) ≡ from + i = omega (arith, lt, length-append front zs, length-take from xs, length-map zs₀ Some, length-replicate {A = ℕ} i byte) in
    let apart = sym (append_assoc front zs rest) in
    ap (λ (l : List (Option ℕ)). take (from + i) l ++ (Some byte ∷ drop (from + i + 1) l)) apart
    ∙ ap (λ (l : List (Option ℕ)). l ++ (Some byte ∷ drop (from + i + 1) ((front ++ zs) ++ rest))) (take_at (front ++ zs) rest (from + i) long)
    ∙ ap (λ (l : List (Option ℕ)). (front ++ zs) ++ (Some byte ∷ l)) (drop-append-drop (from + i) xs (front ++ zs) (from + i + 1) (omega arith) long)
    ∙ append_assoc front zs (Some byte ∷ last)
    ∙ ap (λ (l : List (Option ℕ)). front ++ l) (snoc byte i last)
    ∙ ap (λ (n : ℕ × ℕ). front ++ (map Some (replicate n.0 byte) ++ drop n.1 xs)) {x = (suc i, from + i + 1)} {y = (i + 1, from + (i + 1))} (λ j. (next j, place j))
  where
    next : suc i ≡ i + 1
    next = omega arith

    place : from + i + 1 ≡ from + (i + 1)
    place = omega arith

pub bytes_take : (n : ℕ) (xs : List (Option ℕ)) → bytes_of (take n xs) ≡ take n (bytes_of xs)
bytes_take zero xs = refl
bytes_take (suc n) [] = refl
bytes_take (suc n) (x ∷ xs) = ap (λ l. byte_of x ∷ l) (bytes_take n xs)

pub bytes_drop : (n : ℕ) (xs : List (Option ℕ)) → bytes_of (drop n xs) ≡ drop n (bytes_of xs)
bytes_drop zero xs = refl
bytes_drop (suc n) [] = refl
bytes_drop (suc n) (x ∷ xs) = bytes_drop n xs

-- raw cells are as many as before
pub length_with : (xs : List (Option ℕ)) (from len : ℕ) (w : List ℕ) → length w ≡ len → from + len ≤ length xs → length (with_raw_cells xs from len w) ≡ length xs
length_with xs from len w long le =
    omega (arith, long, le, length-append (take from xs) (map Some w ++ drop (from + len) xs), length-append (map Some w) (drop (from + len) xs), length-map w Some, length-take from xs, length-drop (from + len) xs)

-- which raw_cells have a byte
at_front : (xs ys : List (Option ℕ)) (i : ℕ) → i < length xs → get_or (xs ++ ys) i None ≡ get_or xs i None
at_front [] ys i lt = absurd (omega arith)
at_front (x ∷ xs) ys zero lt = refl
at_front (x ∷ xs) ys (suc i) lt = at_front xs ys i (omega arith)

at_back : (xs ys : List (Option ℕ)) (i : ℕ) → get_or (xs ++ ys) (length xs + i) None ≡ get_or ys i None
at_back [] ys i = ap (λ (k : ℕ). get_or ys k None) (omega arith)
at_back (x ∷ xs) ys i = ap (λ (k : ℕ). get_or (x ∷ xs ++ ys) k None) {x = length (x ∷ xs) + i} {y = suc (length xs + i)} (omega arith) ∙ at_back xs ys i

pub has : (w : List ℕ) (i : ℕ) → i < length w → is_some (get_or (map Some w) i None) ≡ true
has [] i lt = absurd (omega arith)
has (x ∷ w) zero lt = refl
has (x ∷ w) (suc i) lt = has w i (omega arith)

module _ (xs : List (Option ℕ)) (from len : ℕ) (w : List ℕ) (long : length w ≡ len) (le : from + len ≤ length xs) where
  front : length (take from xs) ≡ from
  front = omega (arith, le, length-take from xs)

  pub raw_cell_before : (i : ℕ) → i < from → get_or (with_raw_cells xs from len w) i None ≡ get_or xs i None
  raw_cell_before i lt = at_front (take from xs) (map Some w ++ drop (from + len) xs) i (omega (arith, front, lt)) ∙ get_or-take from xs i None lt

  pub raw_cell_inside : (i : ℕ) → from ≤ i → i < from + len → is_some (get_or (with_raw_cells xs from len w) i None) ≡ true
  raw_cell_inside i low high =
      ap (λ (k : ℕ). is_some (get_or (with_raw_cells xs from len w) k None)) {x = i} {y = length (take from xs) + (i - from)} (omega (arith, front, low))
      ∙ ap is_some (at_back (take from xs) (map Some w ++ drop (from + len) xs) (i - from))
      ∙ ap is_some (at_front (map Some w) (drop (from + len) xs) (i - from) (omega (arith, long, low, high, length-map w Some)))
      ∙ has w (i - from) (omega (arith, long, low, high))

  pub raw_cell_after : (i : ℕ) → from + len ≤ i → get_or (with_raw_cells xs from len w) i None ≡ get_or xs i None
  raw_cell_after i past =
      ap (λ (k : ℕ). get_or (with_raw_cells xs from len w) k None) {x = i} {y = length (take from xs) + (i - from)} (omega (arith, front, past))
      ∙ at_back (take from xs) (map Some w ++ drop (from + len) xs) (i - from)
      ∙ ap (λ (k : ℕ). get_or (map Some w ++ drop (from + len) xs) k None) {x = i - from} {y = length (map Some w) + (i - (from + len))} (omega (arith, long, past, length-map w Some))
      ∙ at_back (map Some w) (drop (from + len) xs) (i - (from + len))
      ∙ get_or-drop (from + len) xs (i - (from + len)) None
      ∙ ap (λ (k : ℕ). get_or xs k None) (omega (arith, past))

-- raw cells that all have a byte
pub all_some : (xs : List (Option ℕ)) → ((i : ℕ) → i < length xs → is_some (get_or xs i None) ≡ true) → xs ≡ map Some (bytes_of xs)
all_some [] all = refl
all_some (None ∷ xs) all = absurd (false≢true (all zero (omega arith)))
all_some (Some x ∷ xs) all = ap (λ l. Some x ∷ l) (all_some xs (λ i lt. all (suc i) (omega (arith, lt))))
