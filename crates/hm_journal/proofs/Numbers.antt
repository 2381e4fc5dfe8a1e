-- A word determines what it says: a number, an option, a flag, a byte, a run, or runs.
use Rattle.std.proofs.Common.{◌≡◌, ⊎_elim, ℕ, ◌+◌, ◌-◌, ◌*◌, ◌/◌, ◌%◌, ◌<◌, ◌≤◌, Bool, true, false, cond, eqb, ltb, List, [], ◌∷◌, ◌++◌, map, drop, get_or, Option, Some, None, refl, codes, arith}
use Rattle.std.specs.List.{AllByRecursion as Each, slice_split}
use Rattle.std.specs.Str.Parse.{AllDigits, digits_value}
use Rattle.std.specs.Fmt.{decimal, digit_glyph}
use Rattle.std.proofs.lemmas.Bool.{cases_Bool, ltb-true, ltb-false, lt-ltb, le-ltb}
use Rattle.std.proofs.lemmas.Bool.Decides.{nat_tests}
use Rattle.std.proofs.lemmas.Fmt.{decimal_is_IsNumeral}
use Rattle.std.proofs.lemmas.Str.Parse.{digit_from_value}
use Rattle.hm_heap.specs.Origins.{bit}
use Rattle.hm_model.specs.Typed.{Fits8, Fits64, OptionFits, RunFits}
use Rattle.hm_base.specs.Bytes.{byte_word, run_word}
use Rattle.hm_journal.specs.Words.{option_word, runs_word}
use Rattle.hm_journal.proofs.Each.{each_append, each_by}
use Rattle.hm_journal.proofs.Splits.{High, Lacks, lacks, split_joined}

-- ---- numbers
high_digits : (ds : List ℕ) → AllDigits 10 ds → High 48 ds
high_digits [] h = tt
high_digits (c ∷ cs) h = (omega (arith, digit_from_value c h.0), high_digits cs h.1)

pub high_decimal : (n : ℕ) → Fits64 n → High 48 (decimal n)
high_decimal n h = high_digits (decimal n) (decimal_is_IsNumeral n h).0.1

low_digit : (ds : List ℕ) → AllDigits 10 ds → get_or ds 0 0 ≤ 57
low_digit [] h = omega arith
low_digit (c ∷ cs) h = omega (arith, digit_from_value c h.0)

pub first_digit : (n : ℕ) → Fits64 n → get_or (decimal n) 0 0 ≤ 57
first_digit n h = low_digit (decimal n) (decimal_is_IsNumeral n h).0.1

pub number : List ℕ → ℕ
number word = digits_value 10 word

pub number_is : (n : ℕ) → Fits64 n → number (decimal n) ≡ n
unfolding number
number_is n h = (decimal_is_IsNumeral n h).1

-- ---- `-` or a number
pub option : List ℕ → Option ℕ
option word = cond (eqb (get_or word 0 0) 45) None (Some (number word))

not_dash : (word : List ℕ) → High 48 word → eqb (get_or word 0 0) 45 ≡ false
not_dash [] h = refl
not_dash (b ∷ word) h = high_not b h.0
  where
    high_not : (b : ℕ) → 48 ≤ b → eqb b 45 ≡ false
    high_not b h = grind (arith, nat_tests)

pub option_is : (o : Option ℕ) → OptionFits o → option (option_word o) ≡ o
unfolding option
option_is None h = refl
option_is (Some n) h = rw (not_dash (decimal n) (high_decimal n h), number_is n h) refl

-- ---- flags
pub flag_of : List ℕ → Bool
flag_of word = eqb (number word) 1

pub flag_is : (b : Bool) → flag_of (decimal (bit b)) ≡ b
unfolding flag_of
flag_is true = rw (number_is 1 (omega arith)) refl
flag_is false = rw (number_is 0 (omega arith)) refl

-- ---- bytes
digit : ℕ → ℕ
digit c = cond (ltb c 58) (c - 48) (c - 87)

digit_is : (d : ℕ) → d < 16 → digit (digit_glyph false d) ≡ d
unfolding digit
digit_is d h =
    ⊎_elim
    (λ (t : ltb d 10 ≡ true). rw t (low d (ltb-true _ _ t)))
    (λ (t : ltb d 10 ≡ false). rw t (high d (ltb-false _ _ t)))
    (cases_Bool (ltb d 10))
  where
    low : (d : ℕ) → d < 10 → cond (ltb (48 + d) 58) ((48 + d) - 48) ((48 + d) - 87) ≡ d
    low d h = let is : ltb (48 + d) 58 ≡ true = lt-ltb _ _ (omega arith) in rw is (omega arith)

    high : (d : ℕ) → 10 ≤ d → cond (ltb (87 + d) 58) ((87 + d) - 48) ((87 + d) - 87) ≡ d
    high d h = let is : ltb (87 + d) 58 ≡ false = le-ltb _ _ (omega arith) in rw is (omega arith)

high_glyph : (d : ℕ) → 48 ≤ digit_glyph false d
high_glyph d =
    ⊎_elim
    (λ (t : ltb d 10 ≡ true). rw t (omega arith))
    (λ (t : ltb d 10 ≡ false). rw t (omega arith))
    (cases_Bool (ltb d 10))

pub high_byte : (b : ℕ) → High 48 (byte_word b)
high_byte b = (high_glyph (b / 16), (high_glyph (b % 16), tt))

pub byte : List ℕ → ℕ
byte word = 16 * digit (get_or word 0 0) + digit (get_or word 1 0)

byte_starts : (b : ℕ) (rest : List ℕ) → Fits8 b → byte (byte_word b ++ rest) ≡ b
unfolding byte
byte_starts b rest h = rw (digit_is (b / 16) (omega arith), digit_is (b % 16) (omega arith)) (omega arith)

pub byte_is : (b : ℕ) → Fits8 b → byte (byte_word b) ≡ b
byte_is b h = byte_starts b [] h

-- ---- runs
run : List ℕ → ℕ × ℕ
run word = (byte word, number (drop 3 word))

run_is : (r : ℕ × ℕ) → RunFits r → run (run_word r) ≡ r
unfolding run
run_is r h = λ i. (byte_starts r.0 (codes "*" ++ decimal r.1) h.0 i, number_is r.1 h.1 i)

pub runs : List ℕ → List (ℕ × ℕ)
runs word = cond (eqb (get_or word 0 0) 45) [] (map run (slice_split (λ b. eqb b 44) word))

-- no comma stands in a run
run_lacks : (r : ℕ × ℕ) → RunFits r → Lacks 44 (run_word r)
run_lacks r h =
    let b = lacks 44 48 (byte_word r.0) (omega arith) (high_byte r.0) in
    (b.0, (b.1.0, (refl, lacks 44 48 (decimal r.1) (omega arith) (high_decimal r.1 h.1))))

pub runs_lack : (rs : List (ℕ × ℕ)) → Each RunFits rs → Each (Lacks 44) (map run_word rs)
runs_lack [] h = tt
runs_lack (r ∷ rs) h = (run_lacks r h.0, runs_lack rs h.1)

runs_back : (rs : List (ℕ × ℕ)) → Each RunFits rs → map run (map run_word rs) ≡ rs
runs_back [] h = refl
runs_back (r ∷ rs) h = λ i. run_is r h.0 i ∷ runs_back rs h.1 i

first_of : (r : ℕ × ℕ) (rs : List (ℕ × ℕ)) → get_or (runs_word (r ∷ rs)) 0 0 ≡ digit_glyph false (r.0 / 16)
first_of r [] = refl
first_of r (s ∷ rs) = refl

pub runs_is : (rs : List (ℕ × ℕ)) → Each RunFits rs → runs (runs_word rs) ≡ rs
unfolding runs
runs_is [] h = refl
runs_is (r ∷ rs) h =
    let words = split_joined 44 (run_word r) (map run_word rs) (runs_lack (r ∷ rs) h) in
    rw (first_of r rs, not_dash (byte_word r.0) (high_byte r.0), words) (runs_back (r ∷ rs) h)

-- ---- no space and no line feed stands in a word
higher : (bytes : List ℕ) → High 48 bytes → High 33 bytes
higher bytes h = each_by (λ b. 48 ≤ b) (λ b. 33 ≤ b) bytes (λ b g. omega (arith, g)) h

pub clean_number : (n : ℕ) → Fits64 n → High 33 (decimal n)
clean_number n h = higher (decimal n) (high_decimal n h)

pub clean_byte : (b : ℕ) → High 33 (byte_word b)
clean_byte b = higher (byte_word b) (high_byte b)

pub clean_option : (o : Option ℕ) → OptionFits o → High 33 (option_word o)
clean_option None h = (omega arith, tt)
clean_option (Some n) h = clean_number n h

pub clean_flag : (b : Bool) → High 33 (decimal (bit b))
clean_flag true = clean_number 1 (omega arith)
clean_flag false = clean_number 0 (omega arith)

clean_run : (r : ℕ × ℕ) → RunFits r → High 33 (run_word r)
clean_run r h = let b = clean_byte r.0 in (b.0, (b.1.0, (omega arith, clean_number r.1 h.1)))

pub clean_runs : (rs : List (ℕ × ℕ)) → Each RunFits rs → High 33 (runs_word rs)
clean_runs [] h = (omega arith, tt)
clean_runs (r ∷ []) h = clean_run r h.0
clean_runs (r ∷ s ∷ rs) h =
    each_append (λ b. 33 ≤ b) (run_word r) _ (clean_run r h.0) (omega arith, clean_runs (s ∷ rs) h.1)
