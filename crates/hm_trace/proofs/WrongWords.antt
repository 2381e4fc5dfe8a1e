-- The first wrong word of a step that is read is the first wrong word by the table.
use Rattle.std.proofs.Common.{◌≡◌, ℕ, ◌+◌, ◌-◌, ◌*◌, ◌<◌, ◌^◌, Bool, true, false, not, ◌&&◌, ◌||◌, cond, eqb, ltb, leb, List, [], ◌∷◌, length, take, drop, codes, Option, Some, None, is_some, option_and_then, Result, Ok, Err, pos, neg_ℤ, refl, ◌∙◌, ap, arith}
use Rattle.std.specs.Option.{option_or}
use Rattle.std.specs.List.{list_all}
use Rattle.std.proofs.lemmas.Bool.{le-leb, lt-leb}
use Rattle.std.proofs.lemmas.Bool.Decides.{nat_tests}
use Rattle.hm_trace.specs.declared.fault.FaultKind.{FaultKind}
use Rattle.hm_trace.specs.declared.fault.FaultKind.TheVariants.{BadName, BadNumber}
use Rattle.hm_trace.specs.declared.progress.Open.{Open}
use Rattle.hm_trace.specs.Gives.{or_fault, ◌>>=◌}
use Rattle.hm_trace.specs.Lines.{BytePart, LengthPart, NamePart, SizePart, is_offset_word, named_fault, number_fault, part_fault, parts_fault, ref_fault, sign_position}
use Rattle.hm_trace.specs.Names.{is_name, is_word}
use Rattle.hm_trace.specs.Numbers.{is_byte, is_decimal, is_hex, is_hex_digit, is_number, value}
use Rattle.hm_trace.specs.ReadNumbers.{hex_after, hex_at, hex_digit, number_at}
use Rattle.hm_trace.specs.ReadWords.{aligned_at, byte_at, calloc_at, distance_at, free_at, length_at, malloc_at, name_at, named_at, offset_at, place_at, read_at, realloc_at, sfree_at, size_at, size_step_at, within, write_at}
use Rattle.hm_trace.specs.Views.{At, Named, Null}
use Rattle.hm_trace.proofs.Agreeing.{PartAgrees}
use Rattle.hm_trace.proofs.Numerals.{a_number, no_number}
use Rattle.hm_trace.proofs.Parts.{free_form, malloc_form, read_form, realloc_form, sfree_form, size_form, two_sizes_form, write_form}

name_agrees : (stage : Open) (word : List ℕ) → PartAgrees (name_at word) (part_fault stage NamePart word)
name_agrees stage word = by (is_name word)
  where
    by : (b : Bool) → PartAgrees (cond b (Ok word) (Err BadName)) (cond b None (Some BadName))
    by true = refl
    by false = refl

number_fits : (low high : ℕ) (word : List ℕ) (n : ℕ) → number_at word ≡ Some n
    → is_number low high word ≡ (leb low n && leb n high)
unfolding is_number
number_fits low high word n e = let i = a_number word n e in rw (i.decimal, i.value) refl

number_wrong_at : (low high : ℕ) (word : List ℕ) (plain after : Bool) → is_decimal word ≡ plain → high < 2 ^ 64
    → number_at word ≡ None → ((plain && after) && leb (value word) high) ≡ false
number_wrong_at low high word false after h lt e = refl
number_wrong_at low high word true false h lt e = refl
number_wrong_at low high word true true h lt e = let big = no_number word e h in lt-leb _ _ (omega (arith, big))

number_wrong : (low high : ℕ) (word : List ℕ) → high < 2 ^ 64 → number_at word ≡ None → is_number low high word ≡ false
unfolding is_number
number_wrong low high word lt e = number_wrong_at low high word (is_decimal word) (leb low (value word)) refl lt e

size_agrees : (stage : Open) (word : List ℕ) → PartAgrees (size_at word) (part_fault stage SizePart word)
size_agrees stage word = by word (number_at word) refl
  where
    by : (word : List ℕ) (o : Option ℕ) → number_at word ≡ o
        → PartAgrees (or_fault BadNumber o) (number_fault (is_number 0 18446744073709551615 word))
    by word None e = let w = number_wrong 0 18446744073709551615 word (omega arith) e in rw w refl
    by word (Some n) e =
        let i = a_number word n e in
        let small : n < 2 ^ 64 = i.small in
        let a : leb 0 n ≡ true = le-leb _ _ (omega arith) in
        let b : leb n 18446744073709551615 ≡ true = le-leb _ _ (omega arith) in
        let f : is_number 0 18446744073709551615 word ≡ true =
        number_fits 0 18446744073709551615 word n e ∙ rw (a, b) refl in
        rw f refl

within_agrees : (low high : ℕ) (word : List ℕ) → high < 2 ^ 64
    → PartAgrees (size_at word >>= λ n. within low high n) (number_fault (is_number low high word))
within_agrees low high word lt = by word (number_at word) refl
  where
    tested : (t : Bool) (n : ℕ) → PartAgrees (cond t (Ok n) (Err BadNumber)) (cond t None (Some BadNumber))
    tested true n = refl
    tested false n = refl

    by : (word : List ℕ) (o : Option ℕ) → number_at word ≡ o
        → PartAgrees (or_fault BadNumber o >>= λ n. within low high n) (number_fault (is_number low high word))
    by word None e = let w = number_wrong low high word lt e in rw w refl
    by word (Some n) e = let w = number_fits low high word n e in rw w (tested (leb low n && leb n high) n)

length_agrees : (stage : Open) (word : List ℕ) → PartAgrees (length_at word) (part_fault stage LengthPart word)
unfolding length_at
length_agrees stage word = within_agrees 1 1048576 word (omega arith)

distance_agrees : (word : List ℕ) → PartAgrees (distance_at word) (number_fault (is_number 1 1099511627776 word))
unfolding distance_at
distance_agrees word = within_agrees 1 1099511627776 word (omega arith)

-- the same of what is made of what was read
mapped : {A B : Type 0} (r : Result A FaultKind) (f : A → B) (o : Option FaultKind) → PartAgrees r o
    → PartAgrees (r >>= λ x. Ok (f x)) o
mapped (Ok x) f o h = h
mapped (Err BadName) f o h = h
mapped (Err BadNumber) f o h = h
mapped (Err _) f o h = absurd h

pub digit_tells : (c : ℕ) → is_some (hex_digit c) ≡ is_hex_digit c
digit_tells c = by (leb 48 c && leb c 57) (leb 97 c && leb c 102)
  where
    by : (a b : Bool) → is_some (cond a (Some (c - 48)) (cond b (Some (c - 87)) None)) ≡ (a || b)
    by true b = refl
    by false true = refl
    by false false = refl

digits_after : (n : ℕ) (cs : List ℕ) (o : Option ℕ)
    → ((d : ℕ) → is_some (hex_after (16 * n + d) cs) ≡ list_all is_hex_digit cs)
    → is_some (option_and_then (λ d. hex_after (16 * n + d) cs) o) ≡ (is_some o && list_all is_hex_digit cs)
digits_after n cs None h = refl
digits_after n cs (Some d) h = h d

digits_tell : (n : ℕ) (cs : List ℕ) → is_some (hex_after n cs) ≡ list_all is_hex_digit cs
digits_tell n [] = refl
digits_tell n (c ∷ cs) =
    digits_after n cs (hex_digit c) (λ d. digits_tell (16 * n + d) cs)
    ∙ ap (λ b. b && list_all is_hex_digit cs) (digit_tells c)

pub hex_tells : (word : List ℕ) → is_some (hex_at word) ≡ is_hex word
unfolding hex_at is_hex
hex_tells [] = refl
hex_tells (c ∷ []) = digits_tell 0 (c ∷ []) ∙ with_true (is_hex_digit c)
  where
    with_true : (b : Bool) → (b && true) ≡ b
    with_true true = refl
    with_true false = refl
hex_tells (c ∷ d ∷ cs) =
    let turned : ltb 16 (length (c ∷ d ∷ cs)) ≡ not (leb (length (c ∷ d ∷ cs)) 16) = grind (arith, nat_tests) in
    rw turned (by (eqb c 48) (leb (length (c ∷ d ∷ cs)) 16))
  where
    by : (a b : Bool)
        → is_some (cond (a || not b) None (hex_after 0 (c ∷ d ∷ cs)))
        ≡ (not a && b && list_all is_hex_digit (c ∷ d ∷ cs))
    by true b = refl
    by false true = digits_tell 0 (c ∷ d ∷ cs)
    by false false = refl

told_by : (o : Option ℕ) (fits : Bool) → is_some o ≡ fits → PartAgrees (or_fault BadNumber o) (number_fault fits)
told_by None fits e = rw (← e) refl
told_by (Some x) fits e = rw (← e) refl

byte_agrees : (stage : Open) (word : List ℕ) → PartAgrees (byte_at word) (part_fault stage BytePart word)
unfolding byte_at is_byte
byte_agrees stage [] = refl
byte_agrees stage (h ∷ []) = refl
byte_agrees stage (h ∷ l ∷ []) =
    by (hex_digit h) (hex_digit l) (is_hex_digit h) (is_hex_digit l) (digit_tells h) (digit_tells l)
  where
    by : (p q : Option ℕ) (a b : Bool) → is_some p ≡ a → is_some q ≡ b
        → PartAgrees (or_fault BadNumber p >>= λ high. or_fault BadNumber q >>= λ low. Ok (16 * high + low))
        (number_fault (a && b))
    by None q a b e f = rw (← e) refl
    by (Some x) None a b e f = rw (← e, ← f) refl
    by (Some x) (Some y) a b e f = rw (← e, ← f) refl
byte_agrees stage (h ∷ l ∷ c ∷ cs) = refl

offset_agrees : (word : List ℕ) → PartAgrees (offset_at word) (number_fault (is_offset_word word))
unfolding offset_at
offset_agrees [] = refl
offset_agrees (c ∷ cs) =
    mapped (distance_at cs) (λ n. cond (eqb c 43) (pos n) (neg_ℤ (pos n))) (number_fault (is_number 1 1099511627776 cs))
    (distance_agrees cs)

named_agrees : (word : List ℕ) → PartAgrees (named_at word) (named_fault word)
unfolding named_at
named_agrees word = by (is_name (take (sign_position word) word))
  where
    by : (b : Bool)
        → PartAgrees
        (cond b (Ok (take (sign_position word) word)) (Err BadName) >>= λ name. offset_at (drop (sign_position word) word)
        >>= λ o. Ok (Named name o))
        (cond b (number_fault (is_offset_word (drop (sign_position word) word))) (Some BadName))
    by true =
        mapped (offset_at (drop (sign_position word) word)) (Named (take (sign_position word) word)) _
        (offset_agrees (drop (sign_position word) word))
    by false = refl

ref_agrees : (word : List ℕ) → PartAgrees (place_at word) (ref_fault word)
unfolding place_at ref_fault
ref_agrees [] = refl
ref_agrees (c ∷ cs) = by (eqb c 64) (is_word (c ∷ cs) (codes "null"))
  where
    by : (a b : Bool)
        → PartAgrees (cond a (or_fault BadNumber (hex_at cs) >>= λ x. Ok (At x)) (cond b (Ok Null) (named_at (c ∷ cs))))
        (cond a (number_fault (is_hex cs)) (cond b None (named_fault (c ∷ cs))))
    by true b = mapped (or_fault BadNumber (hex_at cs)) At _ (told_by (hex_at cs) (is_hex cs) (hex_tells cs))
    by false true = refl
    by false false = named_agrees (c ∷ cs)

-- one word and those after it
then_agrees : {A B : Type 0} (r : Result A FaultKind) (f : A → Result B FaultKind) (o later : Option FaultKind)
    → PartAgrees r o → ((x : A) → PartAgrees (f x) later) → PartAgrees (r >>= f) (option_or o later)
then_agrees (Ok x) f o later h k = rw h (k x)
then_agrees (Err BadName) f o later h k = rw h refl
then_agrees (Err BadNumber) f o later h k = rw h refl
then_agrees (Err _) f o later h k = absurd h

pub malloc_agrees : (stage : Open) (w0 w1 : List ℕ)
    → PartAgrees (malloc_at (w0 ∷ w1 ∷ [])) (parts_fault stage malloc_form (w0 ∷ w1 ∷ []))
unfolding malloc_at
malloc_agrees stage w0 w1 =
    then_agrees (name_at w0) _ _ _ (name_agrees stage w0)
    (λ x0. then_agrees (size_at w1) _ _ _ (size_agrees stage w1) (λ x1. refl))

pub calloc_agrees : (stage : Open) (w0 w1 w2 : List ℕ)
    → PartAgrees (calloc_at (w0 ∷ w1 ∷ w2 ∷ [])) (parts_fault stage two_sizes_form (w0 ∷ w1 ∷ w2 ∷ []))
unfolding calloc_at
calloc_agrees stage w0 w1 w2 =
    then_agrees (name_at w0) _ _ _ (name_agrees stage w0)
    (λ x0.
    then_agrees (size_at w1) _ _ _ (size_agrees stage w1)
    (λ x1. then_agrees (size_at w2) _ _ _ (size_agrees stage w2) (λ x2. refl)))

pub aligned_agrees : (stage : Open) (w0 w1 w2 : List ℕ)
    → PartAgrees (aligned_at (w0 ∷ w1 ∷ w2 ∷ [])) (parts_fault stage two_sizes_form (w0 ∷ w1 ∷ w2 ∷ []))
unfolding aligned_at
aligned_agrees stage w0 w1 w2 =
    then_agrees (name_at w0) _ _ _ (name_agrees stage w0)
    (λ x0.
    then_agrees (size_at w1) _ _ _ (size_agrees stage w1)
    (λ x1. then_agrees (size_at w2) _ _ _ (size_agrees stage w2) (λ x2. refl)))

pub realloc_agrees : (stage : Open) (w0 w1 w2 : List ℕ)
    → PartAgrees (realloc_at (w0 ∷ w1 ∷ w2 ∷ [])) (parts_fault stage realloc_form (w0 ∷ w1 ∷ w2 ∷ []))
unfolding realloc_at
realloc_agrees stage w0 w1 w2 =
    then_agrees (name_at w0) _ _ _ (name_agrees stage w0)
    (λ x0.
    then_agrees (place_at w1) _ _ _ (ref_agrees w1)
    (λ x1. then_agrees (size_at w2) _ _ _ (size_agrees stage w2) (λ x2. refl)))

pub free_agrees : (stage : Open) (w0 : List ℕ) → PartAgrees (free_at (w0 ∷ [])) (parts_fault stage free_form (w0 ∷ []))
unfolding free_at
free_agrees stage w0 = then_agrees (place_at w0) _ _ _ (ref_agrees w0) (λ x0. refl)

pub sfree_agrees : (stage : Open) (w0 w1 : List ℕ)
    → PartAgrees (sfree_at (w0 ∷ w1 ∷ [])) (parts_fault stage sfree_form (w0 ∷ w1 ∷ []))
unfolding sfree_at
sfree_agrees stage w0 w1 =
    then_agrees (place_at w0) _ _ _ (ref_agrees w0)
    (λ x0. then_agrees (size_at w1) _ _ _ (size_agrees stage w1) (λ x1. refl))

pub write_agrees : (stage : Open) (w0 w1 w2 : List ℕ)
    → PartAgrees (write_at (w0 ∷ w1 ∷ w2 ∷ [])) (parts_fault stage write_form (w0 ∷ w1 ∷ w2 ∷ []))
unfolding write_at
write_agrees stage w0 w1 w2 =
    then_agrees (place_at w0) _ _ _ (ref_agrees w0)
    (λ x0.
    then_agrees (length_at w1) _ _ _ (length_agrees stage w1)
    (λ x1. then_agrees (byte_at w2) _ _ _ (byte_agrees stage w2) (λ x2. refl)))

pub read_agrees : (stage : Open) (w0 w1 : List ℕ)
    → PartAgrees (read_at (w0 ∷ w1 ∷ [])) (parts_fault stage read_form (w0 ∷ w1 ∷ []))
unfolding read_at
read_agrees stage w0 w1 =
    then_agrees (place_at w0) _ _ _ (ref_agrees w0)
    (λ x0. then_agrees (length_at w1) _ _ _ (length_agrees stage w1) (λ x1. refl))

pub size_step_agrees : (stage : Open) (w0 : List ℕ)
    → PartAgrees (size_step_at (w0 ∷ [])) (parts_fault stage size_form (w0 ∷ []))
unfolding size_step_at
size_step_agrees stage w0 = then_agrees (place_at w0) _ _ _ (ref_agrees w0) (λ x0. refl)
