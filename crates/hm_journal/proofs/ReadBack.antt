-- What is read of written words is what was written: numbers, options, flags, bytes and runs.
use Rattle.std.proofs.Common.{◌≡◌, ⊎_elim, ℕ, ◌+◌, ◌-◌, ◌*◌, ◌/◌, ◌%◌, ◌<◌, ◌≤◌, ◌^◌, Bool, true, false, cond, eqb, leb, min, List, [], ◌∷◌, ◌++◌, map, Option, Some, None, refl, codes, ◌∙◌, ap, arith}
use Rattle.std.specs.List.{AllByRecursion as Each}
use Rattle.std.specs.Fmt.{decimal, digit_glyph}
use Rattle.std.specs.Str.{bytes_eq}
use Rattle.std.proofs.lemmas.Bool.{cases_Bool, leb-true, leb-false}
use Rattle.std.proofs.lemmas.Bool.Decides.{nat_tests}
use Rattle.std.proofs.lemmas.Fmt.{decimal_by_steps, decimal_digit}
use Rattle.hm_heap.specs.Origins.{bit}
use Rattle.hm_base.specs.Bytes.{byte_word, run_word}
use Rattle.hm_model.specs.Typed.{Fits8, Fits32, Fits64, OptionFits, RunFits}
use Rattle.hm_journal.specs.Reading.{byte_at, digit_at, flag_at, next_value, number_at, number32_at, number8_at, option_at, pairs_at, run_at, value_after}
use Rattle.hm_journal.specs.Words.{option_word, runs_word}
use Rattle.hm_journal.proofs.Numbers.{high_byte, high_decimal, runs_lack}
use Rattle.hm_journal.proofs.Splits.{High, split_joined}

-- ---- numbers
value_more : (v c : ℕ) (ds : List ℕ) → value_after v (ds ++ c ∷ []) ≡ next_value (value_after v ds) c
value_more v c [] = refl
value_more v c (d ∷ ds) = value_more (next_value v d) c ds

one_digit : (n : ℕ) → n < 10 → n < 2 ^ 64 → next_value 0 (48 + n) ≡ n
one_digit n low h = omega arith

one_more : (n : ℕ) → n < 2 ^ 64 → next_value (n / 10) (48 + n % 10) ≡ n
one_more n h = omega arith

pub number_back : (n : ℕ) → Fits64 n → number_at (decimal n) ≡ n
unfolding number_at
number_back n h =
    decimal_by_steps (λ (m : ℕ) (ds : List ℕ). m < 2 ^ 64 → value_after 0 ds ≡ m) one_digit
    (λ (m : ℕ) (ds : List ℕ) ten front fits. value_more 0 (48 + m % 10) ds
    ∙ ap (λ (v : ℕ). next_value v (48 + m % 10)) (front (omega (arith, fits))) ∙ one_more m fits)
    n h h

least : (n top : ℕ) → n ≤ top → min n top ≡ n
least n top h = omega (arith, h)

pub number32_back : (n : ℕ) → Fits32 n → number32_at (decimal n) ≡ n
unfolding number32_at
number32_back n h =
    ap (λ (v : ℕ). min v 4294967295) (number_back n (omega (arith, h))) ∙ least n 4294967295 (omega (arith, h))

pub number8_back : (n : ℕ) → Fits8 n → number8_at (decimal n) ≡ n
unfolding number8_at
number8_back n h = ap (λ (v : ℕ). min v 255) (number_back n (omega (arith, h))) ∙ least n 255 (omega (arith, h))

-- ---- `-` or a number, and flags
no_dash : (b : ℕ) → 48 ≤ b → eqb b 45 ≡ false
no_dash b h = grind (arith, nat_tests)

not_dash : (word : List ℕ) → High 48 word → bytes_eq word (codes "-") ≡ false
not_dash [] h = refl
not_dash (b ∷ word) h = rw (no_dash b h.0) refl

pub option_back : (o : Option ℕ) → OptionFits o → option_at (option_word o) ≡ o
unfolding option_at
option_back None h = refl
option_back (Some n) h = rw (not_dash (decimal n) (high_decimal n h), number_back n h) refl

pub flag_back : (b : Bool) → flag_at (decimal (bit b)) ≡ b
unfolding flag_at
flag_back true = rw (decimal_digit 1 (omega arith)) refl
flag_back false = rw (decimal_digit 0 (omega arith)) refl

-- ---- bytes
digit_back : (d : ℕ) → d < 16 → digit_at (digit_glyph false d) ≡ d
unfolding digit_at
digit_back d h =
    ⊎_elim
    (λ (t : leb 10 d ≡ true). high d (leb-true _ _ t) h)
    (λ (t : leb 10 d ≡ false). low d (leb-false _ _ t))
    (cases_Bool (leb 10 d))
  where
    low : (d : ℕ) → d < 10 → cond (leb (digit_glyph false d) 57) (digit_glyph false d - 48) (digit_glyph false d - 87) ≡ d
    low d h = grind (arith, nat_tests)

    high : (d : ℕ) → 10 ≤ d → d < 16
        → cond (leb (digit_glyph false d) 57) (digit_glyph false d - 48) (digit_glyph false d - 87) ≡ d
    high d h g = grind (arith, nat_tests)

pub byte_back : (b : ℕ) (rest : List ℕ) → Fits8 b → byte_at (byte_word b ++ rest) ≡ b
unfolding byte_at
byte_back b rest h = rw (digit_back (b / 16) (omega arith), digit_back (b % 16) (omega arith)) (omega arith)

-- ---- runs
run_back : (r : ℕ × ℕ) → RunFits r → run_at (run_word r) ≡ r
unfolding run_at
run_back r h = λ i. (byte_back r.0 (codes "*" ++ decimal r.1) h.0 i, number_back r.1 h.1 i)

each_back : (rs : List (ℕ × ℕ)) → Each RunFits rs → map run_at (map run_word rs) ≡ rs
each_back [] h = refl
each_back (r ∷ rs) h = λ i. run_back r h.0 i ∷ each_back rs h.1 i

runs_not_dash : (r : ℕ × ℕ) (rs : List (ℕ × ℕ)) → bytes_eq (runs_word (r ∷ rs)) (codes "-") ≡ false
runs_not_dash r [] = rw (no_dash (digit_glyph false (r.0 / 16)) (high_byte r.0).0) refl
runs_not_dash r (s ∷ rs) = rw (no_dash (digit_glyph false (r.0 / 16)) (high_byte r.0).0) refl

pub pairs_back : (rs : List (ℕ × ℕ)) → Each RunFits rs → pairs_at (runs_word rs) ≡ rs
unfolding pairs_at
pairs_back [] h = refl
pairs_back (r ∷ rs) h =
    let words = split_joined 44 (run_word r) (map run_word rs) (runs_lack (r ∷ rs) h) in
    rw (runs_not_dash r rs, words) (each_back (r ∷ rs) h)
