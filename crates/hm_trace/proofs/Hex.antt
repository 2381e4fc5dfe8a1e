-- A hexadecimal number that was read is what its word spells, and what is written is read.
use Rattle.std.proofs.Common.{◌≡◌, ◌⊎◌, inl, inr, ⊎_elim, ℕ, zero, suc, ◌+◌, ◌-◌, ◌*◌, ◌/◌, ◌%◌, ◌^◌, ◌<◌, ◌≤◌, Bool, true, false, ◌&&◌, ◌||◌, cond, eqb, ltb, leb, List, [], ◌∷◌, ◌++◌, length, get_or, Option, Some, None, option_and_then, refl, sym, ◌∙◌, ap, subst, arith}
use Rattle.std.specs.Fmt.{digits_onto, digit_glyph}
use Rattle.std.proofs.lemmas.Bool.{leb-true, le-leb, lt-leb, ltb-true, ltb-false, lt-ltb, le-ltb, and_parts, cases_Bool}
use Rattle.std.proofs.lemmas.Bool.Decides.{nat_tests}
use Rattle.std.proofs.lemmas.List.{append-nil}
use Rattle.std.proofs.DigitsParse.{digits_onto-nil, digits_onto_step, digits_onto_last}
use Rattle.hm_trace.specs.ReadNumbers.{hex_after, hex_at, hex_digit}
use Rattle.hm_trace.specs.Spelling.{hexadecimal}
use Rattle.hm_trace.proofs.Choices.{chosen}
use Rattle.hm_trace.proofs.Powers.{grows}

-- a digit that was read
pub record IsDigit (c d : ℕ) : Type 0 where
  pub small : d < 16
  pub glyph : digit_glyph false d ≡ c

pub digit_is : (c d : ℕ) → hex_digit c ≡ Some d → IsDigit c d
digit_is c d e =
    ⊎_elim
    (λ (h : ((leb 48 c && leb c 57) ≡ true) × (Option.Some (c - 48) ≡ Some d)).
    let t = and_parts (leb 48 c) (leb c 57) h.0 in
    let low : 48 ≤ c = leb-true _ _ t.0 in let high : c ≤ 57 = leb-true _ _ t.1 in
    let is : c - 48 ≡ d = cc in
    let small : ltb d 10 ≡ true = lt-ltb _ _ (omega arith) in
    record { small = omega arith; glyph = rw small (omega arith) })
    (λ (h : ((leb 48 c && leb c 57) ≡ false) × (cond (leb 97 c && leb c 102) (Some (c - 87)) None ≡ Option.Some d)).
    ⊎_elim
    (λ (k : ((leb 97 c && leb c 102) ≡ true) × (Option.Some (c - 87) ≡ Some d)).
    let t = and_parts (leb 97 c) (leb c 102) k.0 in
    let low : 97 ≤ c = leb-true _ _ t.0 in let high : c ≤ 102 = leb-true _ _ t.1 in
    let is : c - 87 ≡ d = cc in
    let large : ltb d 10 ≡ false = le-ltb _ _ (omega arith) in
    record { small = omega arith; glyph = rw large (omega arith) })
    (λ k. absurd cc)
    (chosen (leb 97 c && leb c 102) (Some (c - 87)) None (Some d) h.1))
    (chosen (leb 48 c && leb c 57) (Some (c - 48)) (cond (leb 97 c && leb c 102) (Some (c - 87)) None) (Some d) e)

went_on : (n c : ℕ) (cs : List ℕ) (m : ℕ) (o : Option ℕ) → hex_digit c ≡ o
    → option_and_then (λ d. hex_after (16 * n + d) cs) o ≡ Some m
    → (d : ℕ) × IsDigit c d × (hex_after (16 * n + d) cs ≡ Some m)
went_on n c cs m None h e = absurd cc
went_on n c cs m (Some d) h e = (d, digit_is c d h, e)

-- the digits of m are those of n and then cs
printed : (k n : ℕ) (cs acc : List ℕ) (m : ℕ) → 0 < n → hex_after n cs ≡ Some m
    → digits_onto (k + length cs) 16 false m acc ≡ digits_onto k 16 false n (cs ++ acc)
printed k n [] acc m some e =
    let is : n ≡ m = cc in
    let same : k + length {A = ℕ} [] ≡ k = omega arith in
    rw (same, is) refl
printed k n (c ∷ cs) acc m some e =
    let w = went_on n c cs m (hex_digit c) refl e in
    let d = w.0 in
    let next = 16 * n + d in
    let small : d < 16 = w.1.small in
    let r = printed (k + 1) next cs acc m (omega arith) w.2 in
    let len : k + length (c ∷ cs) ≡ (k + 1) + length cs = omega arith in
    let up : next / 16 ≡ n = omega arith in
    let low : next % 16 ≡ d = omega arith in
    let less : (k + 1) - 1 ≡ k = omega arith in
    let step = digits_onto_step 16 false next (cs ++ acc) (k + 1) (omega arith) (λ z. omega (arith, up, z)) in
    ap (λ j. digits_onto j 16 false m acc) len ∙ r ∙ step
    ∙ (λ i. digits_onto (less i) 16 false (up i) (digit_glyph false (low i) ∷ cs ++ acc))
    ∙ ap (λ g. digits_onto k 16 false n (g ∷ cs ++ acc)) w.1.glyph

one_digit : (c n : ℕ) → hex_after 0 (c ∷ []) ≡ Some n → c ∷ [] ≡ hexadecimal n
one_digit c n e =
    let w = went_on 0 c [] n (hex_digit c) refl e in
    let small : w.0 < 16 = w.1.small in
    let is : 16 * 0 + w.0 ≡ n = cc in
    let same : w.0 ≡ n = omega (arith, is) in
    let nothing : w.0 / 16 ≡ 0 = omega arith in
    let low : w.0 % 16 ≡ w.0 = omega arith in
    let last = digits_onto_last 16 false w.0 [] 64 (omega arith) nothing in
    sym (ap (λ g. g ∷ []) (ap (digit_glyph false) low ∙ w.1.glyph)) ∙ sym last ∙ digits_onto-nil 16 false w.0
    ∙ ap hexadecimal same

more_digits : (c : ℕ) (cs : List ℕ) (n : ℕ) → (c ≡ 48 → ⊥) → length cs ≤ 15 → hex_after 0 (c ∷ cs) ≡ Some n
    → c ∷ cs ≡ hexadecimal n
more_digits c cs n some short e =
    let w = went_on 0 c cs n (hex_digit c) refl e in
    let d = w.0 in
    let small : d < 16 = w.1.small in
    let first = 16 * 0 + d in
    let pos_first : 0 < first = first_some d c some w.1 in
    let k = 64 - length cs in
    let r = printed k first cs [] n pos_first w.2 in
    let len : k + length cs ≡ 64 = omega arith in
    let nothing : first / 16 ≡ 0 = omega arith in
    let low : first % 16 ≡ d = omega arith in
    let last = digits_onto_last 16 false first (cs ++ []) k (omega arith) nothing in
    sym (ap (λ g. g ∷ cs) (ap (digit_glyph false) low ∙ w.1.glyph))
    ∙ sym (ap (λ (l : List ℕ). digit_glyph false (first % 16) ∷ l) (append-nil cs)) ∙ sym last ∙ sym r
    ∙ ap (λ j. digits_onto j 16 false n []) len ∙ digits_onto-nil 16 false n
  where
    first_some : (d c : ℕ) → (c ≡ 48 → ⊥) → IsDigit c d → 0 < 16 * 0 + d
    first_some zero c some i = absurd (some (sym i.glyph))
    first_some (suc d) c some i = omega arith

pub hex_spelled : (word : List ℕ) (n : ℕ) → hex_at word ≡ Some n → word ≡ hexadecimal n
unfolding hex_at
hex_spelled [] n e = absurd cc
hex_spelled (c ∷ []) n e = one_digit c n e
hex_spelled (c ∷ d ∷ cs) n e =
    ⊎_elim (λ h. absurd (cc (h.1)))
    (λ h. let neither = or_false (eqb c 48) (ltb 16 (length (c ∷ d ∷ cs))) h.0 in
    let short : length (c ∷ d ∷ cs) ≤ 16 = ltb-false _ _ neither.1 in
    let first : eqb c 48 ≡ false = neither.0 in
    more_digits c (d ∷ cs) n (λ z. grind (arith, nat_tests, first, z)) (omega arith) h.1)
    (chosen (eqb c 48 || ltb 16 (length (c ∷ d ∷ cs))) None (hex_after 0 (c ∷ d ∷ cs)) (Some n) e)
  where
    or_false : (a b : Bool) → (a || b) ≡ false → (a ≡ false) × (b ≡ false)
    or_false true b h = absurd cc
    or_false false b h = (refl, h)

-- ---- what is written is read

zero_or : (n : ℕ) → (n ≡ 0) ⊎ (0 < n)
zero_or zero = inl refl
zero_or (suc n) = inr (omega arith)

glyph_low : (d : ℕ) → d < 10 → hex_digit (48 + d) ≡ Some d
glyph_low d h =
    let a : leb 48 (48 + d) ≡ true = le-leb _ _ (omega arith) in
    let b : leb (48 + d) 57 ≡ true = le-leb _ _ (omega arith) in
    let m : (48 + d) - 48 ≡ d = omega arith in
    rw (a, b, m) refl

glyph_high : (d : ℕ) → 10 ≤ d → d < 16 → hex_digit (87 + d) ≡ Some d
glyph_high d h k =
    let a : leb 48 (87 + d) ≡ true = le-leb _ _ (omega arith) in
    let b : leb (87 + d) 57 ≡ false = lt-leb _ _ (omega arith) in
    let c : leb 97 (87 + d) ≡ true = le-leb _ _ (omega arith) in
    let e : leb (87 + d) 102 ≡ true = le-leb _ _ (omega arith) in
    let m : (87 + d) - 87 ≡ d = omega arith in rw (a, b, c, e, m) refl

pub glyph_read : (d : ℕ) → d < 16 → hex_digit (digit_glyph false d) ≡ Some d
glyph_read d h =
    ⊎_elim
    (λ (t : ltb d 10 ≡ true). rw t (glyph_low d (ltb-true _ _ t)))
    (λ (t : ltb d 10 ≡ false). rw t (glyph_high d (ltb-false _ _ t) h))
    (cases_Bool (ltb d 10))

one_read : (m d : ℕ) (acc : List ℕ) → d < 16 → hex_after m (digit_glyph false d ∷ acc) ≡ hex_after (16 * m + d) acc
one_read m d acc h = ap (λ o. option_and_then (λ x. hex_after (16 * m + x) acc) o) (glyph_read d h)

read_back : (k n : ℕ) (acc : List ℕ) → n < 16 ^ k → hex_after 0 (digits_onto k 16 false n acc) ≡ hex_after n acc
read_back zero n acc lt = let is : 0 ≡ n = omega arith in ap (λ m. hex_after m acc) is
read_back (suc k) n acc lt =
    let low : n % 16 < 16 = omega arith in
    ⊎_elim
    (λ (z : n / 16 ≡ 0).
    ap (hex_after 0) (digits_onto_last 16 false n acc (suc k) (omega arith) z) ∙ one_read 0 (n % 16) acc low
    ∙ ap (λ m. hex_after m acc) (omega (arith, z)))
    (λ (z : 0 < n / 16).
    let less : suc k - 1 ≡ k = omega arith in
    ap (hex_after 0)
    (digits_onto_step 16 false n acc (suc k) (omega arith) (λ e. omega (arith, e, z))
    ∙ ap (λ j. digits_onto j 16 false (n / 16) (digit_glyph false (n % 16) ∷ acc)) less)
    ∙ read_back k (n / 16) (digit_glyph false (n % 16) ∷ acc) (omega arith)
    ∙ one_read (n / 16) (n % 16) acc low ∙ ap (λ m. hex_after m acc) (omega arith))
    (zero_or (n / 16))

-- no zero before them, and no more digits than the number has
record IsWritten (k n : ℕ) (word : List ℕ) (after : ℕ) : Type 0 where
  long : 0 < length word
  short : length word ≤ k + after
  first : 0 < n → get_or word 0 0 ≡ 48 → ⊥

no_zero : (d : ℕ) → d < 16 → 0 < d → digit_glyph false d ≡ 48 → ⊥
no_zero d h some is =
    ⊎_elim
    (λ (t : ltb d 10 ≡ true). let e : 48 + d ≡ 48 = rw t at is in omega (arith, e))
    (λ (t : ltb d 10 ≡ false). let e : 87 + d ≡ 48 = rw t at is in omega (arith, e))
    (cases_Bool (ltb d 10))

written_end : (j k n : ℕ) (acc : List ℕ) → n / 16 ≡ 0
    → IsWritten (suc k) n (digits_onto (suc j) 16 false n acc) (length acc)
written_end j k n acc z = let e = digits_onto_last 16 false n acc (suc j) (omega arith) z in
    subst (λ (w : List ℕ). IsWritten (suc k) n w (length acc)) (sym e)
    (record {
      long = omega arith;
      short = omega arith;
      first = λ some is. no_zero (n % 16) (omega arith) (omega (arith, z, some)) is;
    })

written_at : (j k n : ℕ) (acc : List ℕ) → n < 16 ^ suc k → k ≤ j
    → IsWritten (suc k) n (digits_onto (suc j) 16 false n acc) (length acc)
written_at zero zero n acc lt le = written_end 0 0 n acc (omega arith)
written_at (suc j) zero n acc lt le = written_end (suc j) 0 n acc (omega arith)
written_at zero (suc k) n acc lt le = absurd (omega arith)
written_at (suc j) (suc k) n acc lt le =
    ⊎_elim
    (λ (z : n / 16 ≡ 0). written_end (suc j) (suc k) n acc z)
    (λ (z : 0 < n / 16).
    let less : suc (suc j) - 1 ≡ suc j = omega arith in
    let step =
    digits_onto_step 16 false n acc (suc (suc j)) (omega arith) (λ e. omega (arith, e, z))
    ∙ ap (λ i. digits_onto i 16 false (n / 16) (digit_glyph false (n % 16) ∷ acc)) less in
    let r = written_at j k (n / 16) (digit_glyph false (n % 16) ∷ acc) (omega arith) (omega arith) in
    subst (λ (w : List ℕ). IsWritten (suc (suc k)) n w (length acc)) (sym step)
    (record { long = r.long; short = omega (arith, r.short); first = λ some is. r.first z is }))
    (zero_or (n / 16))

hex_reads : (word : List ℕ) (o : Option ℕ) → 0 < length word → length word ≤ 16
    → (length word ≡ 1) ⊎ (get_or word 0 0 ≡ 48 → ⊥) → hex_after 0 word ≡ o → hex_at word ≡ o
unfolding hex_at
hex_reads [] o some short first e = absurd (omega arith)
hex_reads (c ∷ []) o some short first e = e
hex_reads (c ∷ d ∷ cs) o some short (inl one) e = absurd (omega (arith, one))
hex_reads (c ∷ d ∷ cs) o some short (inr first) e =
    let a : eqb c 48 ≡ false = not_48 c first in
    let b : ltb 16 (length (c ∷ d ∷ cs)) ≡ false = le-ltb _ _ short in
    rw (a, b) e
  where
    not_48 : (c : ℕ) → (c ≡ 48 → ⊥) → eqb c 48 ≡ false
    not_48 c h = grind (arith, nat_tests)

hex_again_at : (n : ℕ) → n < 2 ^ 64 → (n ≡ 0) ⊎ (0 < n) → hex_at (digits_onto 64 16 false n []) ≡ Some n
hex_again_at n lt t =
    let w = written_at 63 15 n [] (omega arith) (omega arith) in
    hex_reads (digits_onto 64 16 false n []) (Some n) w.long (omega (arith, w.short)) (front n t w.first)
    (read_back 64 n [] (omega arith))
  where
    front : (n : ℕ) → (n ≡ 0) ⊎ (0 < n) → (0 < n → get_or (digits_onto 64 16 false n []) 0 0 ≡ 48 → ⊥)
        → (length (digits_onto 64 16 false n []) ≡ 1) ⊎ (get_or (digits_onto 64 16 false n []) 0 0 ≡ 48 → ⊥)
    front n (inl z) first = inl (ap length (digits_onto_last 16 false n [] 64 (omega arith) (omega (arith, z))))
    front n (inr some) first = inr (first some)

pub hex_again : (n : ℕ) → n < 2 ^ 64 → hex_at (hexadecimal n) ≡ Some n
hex_again n lt = ap hex_at (sym (digits_onto-nil 16 false n)) ∙ hex_again_at n lt (zero_or n)

-- ---- how great it is

bounded : (k n : ℕ) (cs : List ℕ) (m : ℕ) → n < 16 ^ k → hex_after n cs ≡ Some m → m < 16 ^ (k + length cs)
bounded k n [] m lt e =
    let is : n ≡ m = cc in
    let same : k + length {A = ℕ} [] ≡ k = omega arith in
    rw same (omega (arith, is, lt))
bounded k n (c ∷ cs) m lt e =
    let w = went_on n c cs m (hex_digit c) refl e in
    let small : w.0 < 16 = w.1.small in
    let r = bounded (suc k) (16 * n + w.0) cs m (omega (arith, small, lt)) w.2 in
    let same : k + length (c ∷ cs) ≡ suc k + length cs = omega arith in
    rw same r

in_range : (word : List ℕ) (n : ℕ) → length word ≤ 16 → hex_after 0 word ≡ Some n → n < 2 ^ 64
in_range word n short e =
    let b = bounded 0 0 word n (omega arith) e in
    let same : length word + (16 - length word) ≡ 16 = omega arith in
    let zero_more : 0 + length word ≡ length word = omega arith in
    let c : n < 16 ^ length word = rw zero_more at b in
    let g = grows (length word) (16 - length word) in
    let h : 16 ^ length word ≤ 16 ^ 16 = rw same at g in
    omega (arith, c, h)

pub hex_small : (word : List ℕ) (n : ℕ) → hex_at word ≡ Some n → n < 2 ^ 64
unfolding hex_at
hex_small [] n e = absurd cc
hex_small (c ∷ []) n e = in_range (c ∷ []) n (omega arith) e
hex_small (c ∷ d ∷ cs) n e =
    ⊎_elim (λ h. absurd (cc (h.1)))
    (λ h.
    let short : length (c ∷ d ∷ cs) ≤ 16 = ltb-false _ _ (second (eqb c 48) (ltb 16 (length (c ∷ d ∷ cs))) h.0) in
    in_range (c ∷ d ∷ cs) n short h.1)
    (chosen (eqb c 48 || ltb 16 (length (c ∷ d ∷ cs))) None (hex_after 0 (c ∷ d ∷ cs)) (Some n) e)
  where
    second : (a b : Bool) → (a || b) ≡ false → b ≡ false
    second true b h = absurd cc
    second false b h = h
