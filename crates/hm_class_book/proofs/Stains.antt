-- The first byte that is not zero.
use Rattle.std.proofs.Common.{◌≡◌, ◌≢◌, ⊎_elim, ℕ, zero, suc, ◌+◌, ◌-◌, ◌<◌, ◌≤◌, Bool, cond, List, [], ◌∷◌, length, take, drop, get_or, Option, Some, None, sym, ◌∙◌, ap, refl, arith}
use Rattle.hm_model.proofs.Lists.{same_eq, other_eq}
use Rattle.std.proofs.lemmas.Bool.{cases_lt}
use Rattle.std.proofs.lemmas.List.{length-take, length-drop, get_or-take, get_or-drop}
use Rattle.hm_class_rules.specs.Bytes.{first_nonzero, one_later}

-- where zeros come before it
pub first_at : (bs : List ℕ) (i : ℕ) → i < length bs → get_or bs i 0 ≢ 0 → ((k : ℕ) → k < i → get_or bs k 0 ≡ 0) → first_nonzero bs ≡ Some (i, get_or bs i 0)
first_at [] i lt here before = absurd (omega arith)
first_at (b ∷ bs) zero lt here before = ap (λ (t : Bool). cond t (one_later (first_nonzero bs)) (Some (0, b))) (other_eq b 0 here)
first_at (b ∷ bs) (suc i) lt here before =
    ap (λ (t : Bool). cond t (one_later (first_nonzero bs)) (Some (0, b))) (same_eq b 0 (before 0 (omega arith)))
    ∙ ap (λ (o : Option (ℕ × ℕ)). one_later o) (first_at bs i (omega arith) here (λ k less. before (suc k) (omega arith)))
    ∙ ap (λ (j : ℕ). Some (j, get_or bs i 0)) (omega arith)

-- where all are zero
pub first_none : (bs : List ℕ) → ((k : ℕ) → k < length bs → get_or bs k 0 ≡ 0) → first_nonzero bs ≡ None
first_none [] all = refl
first_none (b ∷ bs) all =
    ap (λ (t : Bool). cond t (one_later (first_nonzero bs)) (Some (0, b))) (same_eq b 0 (all 0 (omega arith)))
    ∙ ap (λ (o : Option (ℕ × ℕ)). one_later o) (first_none bs (λ k less. all (suc k) (omega arith)))

-- ---- piece by piece
module _ (b : List ℕ) (from len done : ℕ) (piece : List ℕ) (is : piece ≡ take (length piece) (drop (from + done) b)) (within : done ≤ len) (most : length piece ≤ len - done) where
  -- a byte of a piece is a byte of the range
  piece_byte : (k : ℕ) → k < length piece → get_or piece k 0 ≡ get_or (take len (drop from b)) (done + k) 0
  piece_byte k lt =
      ap (λ (l : List ℕ). get_or l k 0) is
      ∙ get_or-take (length piece) (drop (from + done) b) k 0 lt
      ∙ get_or-drop (from + done) b k 0
      ∙ ap (λ (i : ℕ). get_or b i 0) (omega arith)
      ∙ sym (get_or-take len (drop from b) (done + k) 0 (omega (arith, within, most, lt)) ∙ get_or-drop from b (done + k) 0)

  zero_before : (n : ℕ) → n ≤ length piece → ((k : ℕ) → k < n → get_or piece k 0 ≡ 0) → ((k : ℕ) → k < done → get_or (take len (drop from b)) k 0 ≡ 0)
      → (k : ℕ) → k < done + n → get_or (take len (drop from b)) k 0 ≡ 0
  zero_before n some all before k lt =
      ⊎_elim (λ below. before k below)
      (λ above. ap (λ (i : ℕ). get_or (take len (drop from b)) i 0) (omega (arith, above))
      ∙ sym (piece_byte (k - done) (omega (arith, above, lt, some))) ∙ all (k - done) (omega (arith, above, lt)))
      (cases_lt k done)

  pub zero_on : ((k : ℕ) → k < length piece → get_or piece k 0 ≡ 0) → ((k : ℕ) → k < done → get_or (take len (drop from b)) k 0 ≡ 0)
      → (k : ℕ) → k < done + length piece → get_or (take len (drop from b)) k 0 ≡ 0
  zero_on all before = zero_before (length piece) (omega arith) all before

  pub found_in : (i : ℕ) → from + len ≤ length b → i < length piece → get_or piece i 0 ≢ 0 → ((k : ℕ) → k < i → get_or piece k 0 ≡ 0)
      → ((k : ℕ) → k < done → get_or (take len (drop from b)) k 0 ≡ 0) → first_nonzero (take len (drop from b)) ≡ Some (done + i, get_or piece i 0)
  found_in i fits lt here all before =
      let whole = take len (drop from b) in
      let long : length whole ≡ len = omega (arith, fits, length-take len (drop from b), length-drop from b) in
      let same : get_or piece i 0 ≡ get_or whole (done + i) 0 = piece_byte i lt in
      first_at whole (done + i) (omega (arith, long, within, most, lt)) (λ e. here (same ∙ e)) (zero_before i (omega (arith, lt)) all before)
      ∙ ap (λ (x : ℕ). Some (done + i, x)) (sym same)
