-- Bytes with others written over them.
use Rattle.std.proofs.Common.{◌≡◌, ◌⊎◌, inl, inr, ⊎_elim, ℕ, zero, suc, ◌+◌, ◌-◌, ◌<◌, ◌≤◌, Bool, true, false, cond, ◌&&◌, nat_lt, List, [], ◌∷◌, ◌++◌, length, take, drop, get_or, sym, ◌∙◌, ap, refl, arith, length-append}
use Rattle.std.proofs.lemmas.Bool.{cases_lt}
use Rattle.std.proofs.lemmas.Bool.Decides.{nat_tests}
use Rattle.std.specs.Prelude.{nat_le}
use Rattle.hm_base.specs.Lists.{written}
use Rattle.hm_model.specs.Overlaid.{overlaid}

pub overlaid_apart : (a : ℕ) (w : List ℕ) (q : ℕ) (b : List ℕ) → (q + length b ≤ a) ⊎ (a + length w ≤ q) → overlaid a w q b ≡ b
overlaid_apart a w q [] off = refl
overlaid_apart a w q (x ∷ b) off =
    ap (λ (t : Bool). cond t (get_or w (q - a) 0) x ∷ overlaid a w (q + 1) b) (out a (length w) q (length b) off)
    ∙ ap (λ (l : List ℕ). x ∷ l) (overlaid_apart a w (q + 1) b (⊎_elim (λ l. inl (omega arith)) (λ r. inr (omega arith)) off))
  where
    out : (a n q k : ℕ) → (q + suc k ≤ a) ⊎ (a + n ≤ q) → (nat_le a q && nat_lt q (a + n)) ≡ false
    out a n q k (inl h) = grind (arith, nat_tests)
    out a n q k (inr h) = grind (arith, nat_tests)

pub length_overlaid : (a : ℕ) (w : List ℕ) (q : ℕ) (b : List ℕ) → length (overlaid a w q b) ≡ length b
length_overlaid a w q [] = refl
length_overlaid a w q (x ∷ b) = ap suc (length_overlaid a w (q + 1) b)

drop_next : (w : List ℕ) (j : ℕ) → j < length w → drop j w ≡ get_or w j 0 ∷ drop (suc j) w
drop_next [] j lt = absurd (omega arith)
drop_next (x ∷ w) zero lt = refl
drop_next (x ∷ w) (suc j) lt = drop_next w j (omega arith)

drop_all : (w : List ℕ) (j : ℕ) → length w ≤ j → drop j w ≡ []
drop_all [] zero le = refl
drop_all [] (suc j) le = refl
drop_all (x ∷ w) zero le = absurd (omega arith)
drop_all (x ∷ w) (suc j) le = drop_all w j (omega arith)

-- bytes that stand j after the first that is written
from : (a : ℕ) (w : List ℕ) (j : ℕ) (b : List ℕ) → j ≤ length w → length w ≤ j + length b → overlaid a w (a + j) b ≡ drop j w ++ drop (length w - j) b
from a w j [] le fits = sym (ap (λ (l : List ℕ). l ++ drop (length w - j) []) (drop_all w j (omega arith)) ∙ drop_all [] (length w - j) (omega arith))
from a w j (x ∷ b) le fits =
    ⊎_elim
    (λ lt. ap (λ (t : Bool). cond t (get_or w ((a + j) - a) 0) x ∷ overlaid a w ((a + j) + 1) b) (inside a (length w) j lt)
    ∙ ap (λ (i : ℕ). get_or w i 0 ∷ overlaid a w ((a + j) + 1) b) (omega arith)
    ∙ ap (λ (q : ℕ). get_or w j 0 ∷ overlaid a w q b) (omega arith)
    ∙ ap (λ (l : List ℕ). get_or w j 0 ∷ l) (from a w (suc j) b (omega arith) (omega arith))
    ∙ ap (λ (l : List ℕ). l ++ drop (length w - suc j) b) (sym (drop_next w j lt))
    ∙ ap (λ (n : ℕ). drop j w ++ drop n (x ∷ b)) (one_less (length w) j lt))
    (λ ge. overlaid_apart a w (a + j) (x ∷ b) (inr (omega arith))
    ∙ sym (ap (λ (l : List ℕ). l ++ drop (length w - j) (x ∷ b)) (drop_all w j ge) ∙ ap (λ (n : ℕ). drop n (x ∷ b)) (no_less (length w) j ge)))
    (cases_lt j (length w))
  where
    inside : (a n j : ℕ) → j < n → (nat_le a (a + j) && nat_lt (a + j) (a + n)) ≡ true
    inside a n j lt = grind (arith, nat_tests)

    one_less : (n j : ℕ) → j < n → suc (n - suc j) ≡ n - j
    one_less n j lt = omega arith

    no_less : (n j : ℕ) → n ≤ j → n - j ≡ 0
    no_less n j le = omega arith

-- bytes that stand d before the first that is written
pub overlaid_written : (d q : ℕ) (w b : List ℕ) → d + length w ≤ length b → overlaid (q + d) w q b ≡ written b d w
overlaid_written zero q w b fits =
    ap (λ (a : ℕ). overlaid a w q b) (omega arith) ∙ ap (λ (n : ℕ). overlaid q w n b) (omega arith) ∙ from q w 0 b (omega arith) (omega arith)
    ∙ ap (λ (n : ℕ). w ++ drop n b) (omega arith)
overlaid_written (suc d) q w [] fits = absurd (omega arith)
overlaid_written (suc d) q w (x ∷ b) fits =
    let next : suc (d + length w) ≡ suc d + length w = omega arith in
    ap (λ (t : Bool). cond t (get_or w (q - (q + suc d)) 0) x ∷ overlaid (q + suc d) w (q + 1) b) (before q d (length w))
    ∙ ap (λ (a : ℕ). x ∷ overlaid a w (q + 1) b) (omega arith)
    ∙ ap (λ (l : List ℕ). x ∷ l) (overlaid_written d (q + 1) w b (omega arith))
    ∙ ap (λ (n : ℕ). x ∷ ((take d b ++ w) ++ drop n (x ∷ b))) next
  where
    before : (q d n : ℕ) → (nat_le (q + suc d) q && nat_lt q ((q + suc d) + n)) ≡ false
    before q d n = grind (arith, nat_tests)

-- ---- one write after another
get_front : (w v : List ℕ) (i : ℕ) → i < length w → get_or (w ++ v) i 0 ≡ get_or w i 0
get_front [] v i lt = absurd (omega arith)
get_front (x ∷ w) v zero lt = refl
get_front (x ∷ w) v (suc i) lt = get_front w v i (omega arith)

get_back : (w v : List ℕ) (i : ℕ) → get_or (w ++ v) (length w + i) 0 ≡ get_or v i 0
get_back [] v i = ap (λ (n : ℕ). get_or v n 0) (omega arith)
get_back (x ∷ w) v i = (let e : suc (length w) + i ≡ suc (length w + i) = omega arith in ap (λ (n : ℕ). get_or (x ∷ (w ++ v)) n 0) e) ∙ get_back w v i

abbrev inside : ℕ → ℕ → ℕ → Bool
inside a n q = nat_le a q && nat_lt q (a + n)

inside_yes : (a n q : ℕ) → a ≤ q → q < a + n → inside a n q ≡ true
inside_yes a n q le lt = grind (arith, nat_tests)

inside_before : (a n q : ℕ) → q < a → inside a n q ≡ false
inside_before a n q lt = grind (arith, nat_tests)

inside_after : (a n q : ℕ) → a + n ≤ q → inside a n q ≡ false
inside_after a n q le = grind (arith, nat_tests)

abbrev pick : ℕ → List ℕ → ℕ → ℕ → ℕ
pick a w q x = cond (inside a (length w) q) (get_or w (q - a) 0) x

pick_out : (a : ℕ) (w : List ℕ) (q x : ℕ) → inside a (length w) q ≡ false → pick a w q x ≡ x
pick_out a w q x e = ap (λ (t : Bool). cond t (get_or w (q - a) 0) x) e

pick_in : (a : ℕ) (w : List ℕ) (q x : ℕ) → inside a (length w) q ≡ true → pick a w q x ≡ get_or w (q - a) 0
pick_in a w q x e = ap (λ (t : Bool). cond t (get_or w (q - a) 0) x) e

pick_two : (a : ℕ) (w v : List ℕ) (q x : ℕ) → pick (a + length w) v q (pick a w q x) ≡ pick a (w ++ v) q x
pick_two a w v q x =
    let len : length (w ++ v) ≡ length w + length v = length-append w v in
    ⊎_elim
    (λ lt. pick_out (a + length w) v q (pick a w q x) (inside_before _ _ q (omega arith)) ∙ pick_out a w q x (inside_before _ _ q lt) ∙ sym (pick_out a (w ++ v) q x (inside_before _ _ q lt)))
    (λ ge. ⊎_elim
    (λ lt. pick_out (a + length w) v q (pick a w q x) (inside_before _ _ q lt) ∙ pick_in a w q x (inside_yes _ _ q ge lt)
    ∙ sym (get_front w v (q - a) (omega arith)) ∙ sym (pick_in a (w ++ v) q x (inside_yes _ _ q ge (omega arith))))
    (λ past. ⊎_elim
    (λ lt. pick_in (a + length w) v q (pick a w q x) (inside_yes _ _ q past lt)
    ∙ sym (get_back w v (q - (a + length w))) ∙ ap (λ (n : ℕ). get_or (w ++ v) n 0) (omega arith) ∙ sym (pick_in a (w ++ v) q x (inside_yes _ _ q ge (omega arith))))
    (λ out. pick_out (a + length w) v q (pick a w q x) (inside_after _ _ q out) ∙ pick_out a w q x (inside_after _ _ q past) ∙ sym (pick_out a (w ++ v) q x (inside_after _ _ q (omega arith))))
    (cases_lt q ((a + length w) + length v)))
    (cases_lt q (a + length w)))
    (cases_lt q a)

pub overlaid_two : (a : ℕ) (w v : List ℕ) (q : ℕ) (b : List ℕ) → overlaid (a + length w) v q (overlaid a w q b) ≡ overlaid a (w ++ v) q b
overlaid_two a w v q [] = refl
overlaid_two a w v q (x ∷ b) =
    ap (λ (y : ℕ). y ∷ overlaid (a + length w) v (q + 1) (overlaid a w (q + 1) b)) (pick_two a w v q x)
    ∙ ap (λ (l : List ℕ). pick a (w ++ v) q x ∷ l) (overlaid_two a w v (q + 1) b)

-- ---- writing nothing
inside_none : (a q : ℕ) → inside a 0 q ≡ false
inside_none a q = grind (arith, nat_tests)

pub overlaid_nil : (a q : ℕ) (b : List ℕ) → overlaid a [] q b ≡ b
overlaid_nil a q [] = refl
overlaid_nil a q (x ∷ b) =
    ap (λ (y : ℕ). y ∷ overlaid a [] (q + 1) b) (pick_out a [] q x (inside_none a q)) ∙ ap (λ (l : List ℕ). x ∷ l) (overlaid_nil a (q + 1) b)
