-- Cells of which those past the first ones are empty, once one of them is set.
use Rattle.std.proofs.Common.{◌≡◌, ℕ, zero, suc, ◌+◌, ◌-◌, ◌<◌, ◌≤◌, List, [], ◌∷◌, ◌++◌, length, replicate, slice_set, Option, None, sym, ap, ◌∙◌, arith, length-append}
use Rattle.std.proofs.lemmas.List.{set-append_left, set-append_right, length-set, length-replicate, append_assoc}
use Rattle.hm_quarantine.specs.Quarantine.{cells}

-- one of the first cells is set
pub set_first : (count : ℕ) (first : List (Option ℕ)) (i : ℕ) (x : Option ℕ) → i < length first
    → cells count (slice_set first i x) ≡ slice_set (cells count first) i x
set_first count first i x below =
    ap (λ n. slice_set first i x ++ replicate (count - n) None) (length-set first i x)
    ∙ sym (set-append_left first (replicate (count - length first) None) i x below)

-- one of so many empty cells is set
set_empty : (count i : ℕ) (x : Option ℕ) → i < count
    → slice_set (replicate count None) i x ≡ replicate i None ++ x ∷ replicate (count - (i + 1)) None
set_empty zero i x below = absurd (omega (arith, below))
set_empty (suc count) zero x below = ap (λ n. x ∷ replicate n None) (omega arith)
set_empty (suc count) (suc i) x below =
    ap (λ l. None ∷ l) (set_empty count i x (omega (arith, below)) ∙ ap (λ n. replicate i None ++ x ∷ replicate n None) (omega arith))

-- a cell past the first ones is set
pub set_later : (count : ℕ) (first : List (Option ℕ)) (n i : ℕ) (x : Option ℕ) → n ≡ length first → n ≤ i → i < count
    → cells count ((first ++ replicate (i - n) None) ++ x ∷ []) ≡ slice_set (cells count first) i x
set_later count first n i x is past below =
    append_assoc (first ++ between) (x ∷ []) _
    ∙ (append_assoc first between _
    ∙ (ap (λ m. first ++ (between ++ x ∷ replicate m None)) counted
    ∙ (ap (λ l. first ++ l) (sym (set_empty (count - length first) (i - n) x (omega (arith, is, past, below))))
    ∙ sym (set-append_right first (replicate (count - length first) None) n i x (sym is) past))))
  where
    between : List (Option ℕ)
    between = replicate (i - n) None

    counted : count - length ((first ++ between) ++ x ∷ []) ≡ count - length first - (i - n + 1)
    counted = omega (arith, is, past, below, length-append (first ++ between) (x ∷ []), length-append first between, length-replicate {A = Option ℕ} (i - n) None)
