-- The part of what is written that lies among some bytes.
use Rattle.std.proofs.Common.{◌≡◌, ◌⊎◌, inl, inr, ⊎_elim, ℕ, suc, ◌+◌, ◌-◌, ◌<◌, ◌≤◌, Bool, true, false, cond, ◌&&◌, nat_lt, max, min, List, [], ◌∷◌, length, take, drop, replicate, get_or, sym, ◌∙◌, ap, refl, arith, length-drop}
use Rattle.std.specs.Prelude.{nat_le}
use Rattle.std.proofs.lemmas.Bool.{cases_lt}
use Rattle.std.proofs.lemmas.Bool.Decides.{nat_tests}
use Rattle.std.proofs.lemmas.List.{get_or-take, get_or-drop, length-take, length-replicate, take-replicate, drop-replicate}
use Rattle.hm_base.specs.Lists.{written}
use Rattle.hm_model.specs.Overlaid.{overlaid}
use Rattle.hm_model.proofs.Overlaid.{overlaid_apart, overlaid_written, overlaid_nil}

abbrev inside : ℕ → ℕ → ℕ → Bool
inside a n q = nat_le a q && nat_lt q (a + n)

abbrev pick : ℕ → List ℕ → ℕ → ℕ → ℕ
pick a w q x = cond (inside a (length w) q) (get_or w (q - a) 0) x

alike : (a : ℕ) (w : List ℕ) (f : ℕ) (v : List ℕ) (q : ℕ) (b : List ℕ) → ((i x : ℕ) → q ≤ i → i < q + length b → pick a w i x ≡ pick f v i x)
    → overlaid a w q b ≡ overlaid f v q b
alike a w f v q [] h = refl
alike a w f v q (x ∷ b) h =
    ap (λ (y : ℕ). y ∷ overlaid a w (q + 1) b) (h q x (omega arith) (omega arith))
    ∙ ap (λ (l : List ℕ). pick f v q x ∷ l) (alike a w f v (q + 1) b (λ i y le lt. h i y (omega (arith, le)) (omega (arith, lt))))

inside_yes : (a n q : ℕ) → a ≤ q → q < a + n → inside a n q ≡ true
inside_yes a n q le lt = grind (arith, nat_tests)

inside_before : (a n q : ℕ) → q < a → inside a n q ≡ false
inside_before a n q lt = grind (arith, nat_tests)

inside_after : (a n q : ℕ) → a + n ≤ q → inside a n q ≡ false
inside_after a n q le = grind (arith, nat_tests)

both_out : (a n f k i y z x : ℕ) → inside a n i ≡ false → inside f k i ≡ false → cond (inside a n i) y x ≡ cond (inside f k i) z x
both_out a n f k i y z x e g = ap (λ (t : Bool). cond t y x) e ∙ sym (ap (λ (t : Bool). cond t z x) g)

both_in : (a n f k i y z x : ℕ) → inside a n i ≡ true → inside f k i ≡ true → y ≡ z → cond (inside a n i) y x ≡ cond (inside f k i) z x
both_in a n f k i y z x e g same = ap (λ (t : Bool). cond t y x) e ∙ same ∙ sym (ap (λ (t : Bool). cond t z x) g)

module _ (a q : ℕ) (w b : List ℕ) (f t : ℕ) (first : f ≡ max a q) (last : t ≡ min (a + length w) (q + length b)) where
  part : List ℕ
  part = take (t - f) (drop (f - a) w)

  part_length : length (drop (f - a) w) ≡ length w - (f - a) → length part ≡ t - f
  unfolding part
  part_length e = omega (arith, length-take (t - f) (drop (f - a) w), e, first, last)

  length_part : length part ≡ t - f
  length_part = part_length (length-drop (f - a) w)

  same_part : f < t → (i x : ℕ) → q ≤ i → i < q + length b → pick a w i x ≡ pick f part i x
  unfolding part
  same_part some i x le lt =
      ⊎_elim
      (λ before. both_out a (length w) f (length part) i _ _ x (inside_before a (length w) i (omega (arith, before, first, le))) (inside_before f (length part) i before))
      (λ from. ⊎_elim
      (λ within. both_in a (length w) f (length part) i _ _ x
      (inside_yes a (length w) i (omega (arith, from, first)) (omega (arith, within, last)))
      (inside_yes f (length part) i from (omega (arith, within, length_part)))
      (sym (get_or-take (t - f) (drop (f - a) w) (i - f) 0 (omega (arith, within, from))
      ∙ get_or-drop (f - a) w (i - f) 0
      ∙ ap (λ (n : ℕ). get_or w n 0) (omega (arith, from, first)))))
      (λ after. both_out a (length w) f (length part) i _ _ x (inside_after a (length w) i (omega (arith, after, last, lt))) (inside_after f (length part) i (omega (arith, after, length_part, from))))
      (cases_lt i t))
      (cases_lt i f)

  pub part_written : f < t → written b (f - q) (take (t - f) (drop (f - a) w)) ≡ overlaid a w q b
  unfolding part
  part_written some =
      sym (alike a w f part q b (same_part some)
      ∙ ap (λ (n : ℕ). overlaid n part q b) (omega (arith, first))
      ∙ overlaid_written (f - q) q part b (omega (arith, length_part, last, first)))

  pub none_written : t ≤ f → b ≡ overlaid a w q b
  none_written none = of b w (omega (arith, none, first, last))
    where
      of : (b w : List ℕ) → min (a + length w) (q + length b) ≤ max a q → b ≡ overlaid a w q b
      of [] w le = refl
      of (x ∷ b) [] le = sym (overlaid_nil a q (x ∷ b))
      of (x ∷ b) (y ∷ w) le = sym (overlaid_apart a (y ∷ w) q (x ∷ b) (either a (length w) q (length b) (omega (arith, le))))
        where
          either : (a n q k : ℕ) → min (a + suc n) (q + suc k) ≤ max a q → (q + suc k ≤ a) ⊎ (a + suc n ≤ q)
          either a n q k le = ⊎_elim (λ lt. inr (omega (arith, lt, le))) (λ ge. inl (omega (arith, ge, le))) (cases_lt a q)

  pub over_written : f < t → (ys : List ℕ) → ys ≡ take (t - f) (drop (f - a) w) → written b (f - q) ys ≡ overlaid a w q b
  over_written some ys is = ap (λ (l : List ℕ). written b (f - q) l) is ∙ part_written some

-- ---- one byte, written so many times
module _ (a q n byte : ℕ) (b : List ℕ) (f t : ℕ) (first : f ≡ max a q) (last : t ≡ min (a + n) (q + length b)) where
  pub byte_written : f < t → written b (f - q) (replicate (t - f) byte) ≡ overlaid a (replicate n byte) q b
  byte_written some =
      let part : take (t - f) (drop (f - a) (replicate n byte)) ≡ replicate (t - f) byte =
      ap (take (t - f)) (drop-replicate (f - a) n byte) ∙ take-replicate (t - f) (n - (f - a)) byte (omega (arith, first, last)) in
      over_written a q (replicate n byte) b f t first (omega (arith, last, length-replicate {A = ℕ} n byte)) some (replicate (t - f) byte) (sym part)

  pub no_byte_written : t ≤ f → b ≡ overlaid a (replicate n byte) q b
  no_byte_written none = none_written a q (replicate n byte) b f t first (omega (arith, last, length-replicate {A = ℕ} n byte)) none

-- ---- at a bound that no address passes
pub least_end : (t e x s m : ℕ) → t ≡ min e s → s ≡ min x m → e ≤ m → t ≡ min e x
least_end t e x s m h g le = omega (arith, h, g, le)

-- what begins past all addresses has nothing written over it
pub overlaid_past : (a : ℕ) (w : List ℕ) (q m : ℕ) (b : List ℕ) → a + length w < m → m ≤ q → overlaid a w q b ≡ b
overlaid_past a w q m b below past = overlaid_apart a w q b (inr (omega (arith, below, past)))
