-- The first byte of a range that is not zero, where the range is read piece by piece.
use Rattle.std.proofs.Common.{◌≡◌, ℕ, ◌+◌, ◌-◌, ◌≤◌, List, length, take, drop, Some, None, sym, ap, ◌∙◌, arith}
use Rattle.std.proofs.Math.Seq.{take-add}
use Rattle.std.proofs.lemmas.List.{length-take, length-drop}
use Rattle.hm_outside.proofs.Pieces.{front_on}
use Rattle.hm_class_rules.specs.Bytes.{first_nonzero}
use Rattle.hm_class.proofs.SlotBytes.{none_then_none, none_then_some, some_then}

-- zero bytes, and a piece of zero bytes after them
pub none_on : (b : List ℕ) (start from : ℕ) {slice : List ℕ} → slice ≡ take (length slice) (drop (start + from) b) → first_nonzero (take from (drop start b)) ≡ None → first_nonzero slice ≡ None
    → first_nonzero (take (from + length slice) (drop start b)) ≡ None
none_on b start from {slice = slice} is before none =
    ap (λ (l : List ℕ). first_nonzero l) (sym (front_on b start from slice is)) ∙ none_then_none (take from (drop start b)) slice before none

-- a byte that is found in a piece, where those before the piece are zero
pub found_in : (b : List ℕ) (start len from : ℕ) {slice : List ℕ} {at byte : ℕ} → slice ≡ take (length slice) (drop (start + from) b) → from + length slice ≤ len → start + len ≤ length b
    → first_nonzero (take from (drop start b)) ≡ None → first_nonzero slice ≡ Some (at, byte) → first_nonzero (take len (drop start b)) ≡ Some (from + at, byte)
found_in b start len from {slice = slice} {at = at} {byte = byte} is within fits before found =
    let all = drop start b in
    let front : ℕ = from + length slice in
    let rest : ℕ = len - front in
    let long : length (take from all) ≡ from = omega (arith, within, fits, length-take from (drop start b), length-drop start b) in
    ap (λ (n : ℕ). first_nonzero (take n all)) {x = len} {y = front + rest} (omega (arith, within))
    ∙ ap (λ (l : List ℕ). first_nonzero l) (take-add front rest all)
    ∙ some_then (take front all) (take rest (drop front all)) (from + at, byte)
    (ap (λ (l : List ℕ). first_nonzero l) (sym (front_on b start from slice is))
    ∙ none_then_some (take from all) slice at byte before found
    ∙ ap (λ (n : ℕ). Some (n + at, byte)) long)
