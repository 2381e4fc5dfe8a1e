-- The words of a step are read as that step.
use Rattle.std.proofs.Common.{◌≡◌, ⊎_elim, ℕ, zero, suc, ◌≤◌, ◌<◌, ◌^◌, true, false, not, ◌&&◌, eqb, leb, List, [], ◌∷◌, ◌++◌, length, take, codes, Ok, ℤ, pos, negsuc, refl, ◌∙◌, ap, subst, arith}
use Rattle.std.specs.List.{list_all}
use Rattle.std.specs.Fmt.{decimal}
use Rattle.std.proofs.lemmas.Bool.{leb-true, le-leb, and_parts, cases_Bool}
use Rattle.std.proofs.lemmas.Bool.Decides.{nat_tests}
use Rattle.std.proofs.lemmas.List.{take_at, drop_at}
use Rattle.hm_trace.specs.Lines.{is_sign, sign_position}
use Rattle.hm_trace.specs.Names.{is_letter, is_name, is_name_byte, is_word}
use Rattle.hm_trace.specs.ReadWords.{distance_at, name_at, named_at, offset_at, size_at}
use Rattle.hm_trace.specs.Spelling.{offset_word}
use Rattle.hm_trace.specs.Views.{Named}
use Rattle.hm_trace.proofs.Choices.{word_is}
use Rattle.hm_trace.proofs.Fits.{FitsOffset}
use Rattle.hm_trace.proofs.Numerals.{again}

pub name_again : (name : List ℕ) → is_name name ≡ true → name_at name ≡ Ok name
name_again name h = rw h refl

pub size_again : (n : ℕ) → n < 2 ^ 64 → size_at (decimal n) ≡ Ok n
size_again n lt = rw (again n lt) refl

distance_again : (n : ℕ) → 1 ≤ n → n ≤ 1099511627776 → distance_at (decimal n) ≡ Ok n
unfolding distance_at
distance_again n low high =
    let lt : n < 2 ^ 64 = omega arith in
    let a : leb 1 n ≡ true = le-leb _ _ low in
    let b : leb n 1099511627776 ≡ true = le-leb _ _ high in
    rw (again n lt, a, b) refl

offset_again : (z : ℤ) → FitsOffset z → offset_at (offset_word z) ≡ Ok z
unfolding offset_at
offset_again (pos zero) h = refl
offset_again (pos (suc n)) h = rw (distance_again (suc n) (omega arith) h) refl
offset_again (negsuc n) h = rw (distance_again (suc n) (omega arith) h) refl

-- a name is letters, digits and `_`
pub name_bytes : (name : List ℕ) → is_name name ≡ true
    → (list_all is_name_byte name ≡ true) × (length name ≤ 32) × (0 < length name)
unfolding is_name
name_bytes [] h = absurd cc
name_bytes (c ∷ cs) h =
    let a =
    and_parts (is_letter c && list_all is_name_byte cs && leb (length cs) 31)
    (not (is_word (c ∷ cs) (codes "null"))) h in
    let b = and_parts (is_letter c && list_all is_name_byte cs) (leb (length cs) 31) a.0 in
    let d = and_parts (is_letter c) (list_all is_name_byte cs) b.0 in
    let short : length cs ≤ 31 = leb-true _ _ b.1 in
    let letter : is_letter c ≡ true = d.0 in
    let all : list_all is_name_byte cs ≡ true = d.1 in
    (rw (letter, all) refl, omega arith, omega arith)

null_no_name : is_name (codes "null") ≡ false
unfolding is_name
null_no_name = refl

no_sign : (c : ℕ) → is_name_byte c ≡ true → is_sign c ≡ false
no_sign c h = grind (arith, nat_tests)

sign_at_end : (name : List ℕ) (z : ℤ) → list_all is_name_byte name ≡ true
    → sign_position (name ++ offset_word z) ≡ length name
sign_at_end [] (pos zero) h = refl
sign_at_end [] (pos (suc n)) h = refl
sign_at_end [] (negsuc n) h = refl
sign_at_end (c ∷ cs) z h =
    let b = and_parts (is_name_byte c) (list_all is_name_byte cs) h in
    let n : is_sign c ≡ false = no_sign c b.0 in
    let r = sign_at_end cs z b.1 in
    rw n (omega (arith, r))

pub named_again : (name : List ℕ) (z : ℤ) → is_name name ≡ true → FitsOffset z
    → named_at (name ++ offset_word z) ≡ Ok (Named name z)
unfolding named_at
named_again name z h f =
    let s = sign_at_end name z (name_bytes name h).0 in
    rw (
      s,
      take_at name (offset_word z) (length name) refl,
      drop_at name (offset_word z) (length name) refl,
      h,
      offset_again z f,
    )
    refl

pub not_null : (name : List ℕ) (z : ℤ) → is_name name ≡ true → is_word (name ++ offset_word z) (codes "null") ≡ false
not_null name z h =
    let word = name ++ offset_word z in
    ⊎_elim
    (λ (t : is_word word (codes "null") ≡ true).
    let s = sign_at_end name z (name_bytes name h).0 in
    let front : take (sign_position word) word ≡ name =
    ap (λ k. take k word) s ∙ take_at name (offset_word z) (length name) refl in
    let is : codes "null" ≡ name =
    subst (λ (w : List ℕ). take (sign_position w) w ≡ name) (word_is word (codes "null") t) front in
    let bad : is_name name ≡ false = subst (λ (w : List ℕ). is_name w ≡ false) is null_no_name in absurd cc)
    (λ (t : is_word word (codes "null") ≡ false). t)
    (cases_Bool (is_word word (codes "null")))

-- a name begins with a letter
abbrev pub NotAt : List ℕ → Type 0
NotAt [] = ⊥
NotAt (c ∷ cs) = eqb c 64 ≡ false

letter : (c : ℕ) → is_letter c ≡ true → eqb c 64 ≡ false
letter c h = grind (arith, nat_tests)

pub first_letter : (name : List ℕ) → is_name name ≡ true → NotAt name
unfolding is_name
first_letter [] h = absurd cc
first_letter (c ∷ cs) h =
    let a =
    and_parts (is_letter c && list_all is_name_byte cs && leb (length cs) 31)
    (not (is_word (c ∷ cs) (codes "null"))) h in
    let b = and_parts (is_letter c && list_all is_name_byte cs) (leb (length cs) 31) a.0 in
    letter c (and_parts (is_letter c) (list_all is_name_byte cs) b.0).0
