-- The names of a stress trace are names, and those of two threads differ.
use Rattle.std.proofs.Common.{◌≡◌, ◌≢◌, ⊎_elim, ℕ, ◌^◌, ◌<◌, ◌≤◌, Bool, true, false, List, [], ◌∷◌, ◌++◌, length, get_or, slice_get, EachIndex, Some, refl, sym, ◌∙◌, ap, arith, append_assoc, length-append}
use Rattle.std.specs.Option.{option_map}
use Rattle.std.specs.Str.{all_ascii_digits}
use Rattle.std.specs.List.{list_all}
use Rattle.std.specs.Fmt.{decimal}
use Rattle.std.proofs.lemmas.Bool.{le-leb, and_from, cases_Bool}
use Rattle.std.proofs.lemmas.Bool.Decides.{nat_tests}
use Rattle.std.proofs.lemmas.Fmt.{decimal_injective, digits_decimal, length-decimal-le}
use Rattle.std.proofs.lemmas.List.Folds.{list_all-append}
use Rattle.std.proofs.lemmas.Option.{slice_get_read}
use Rattle.hm_trace.specs.declared.names.Name.{Name}
use Rattle.hm_trace.specs.Names.{is_name, is_name_byte, is_word}
use Rattle.hm_trace.specs.Stress.{name_at}
use Rattle.hm_trace.specs.Views.{name_view}
use Rattle.hm_trace.proofs.Choices.{word_is}
use Rattle.hm_trace.proofs.Decimals.{own}
use Rattle.hm_trace.proofs.Numerals.{digits_parts}

pub list_all_both : {X : Type 0} (p : X → Bool) (xs ys : List X) → list_all p xs ≡ true → list_all p ys ≡ true → list_all p (xs ++ ys) ≡ true
list_all_both p xs ys h k = list_all-append p xs ys ∙ and_from _ _ h k

name_digit : (c : ℕ) → 48 ≤ c → c ≤ 57 → is_name_byte c ≡ true
name_digit c low high = grind (arith, nat_tests)

name_digits : (ds : List ℕ) → all_ascii_digits ds ≡ true → list_all is_name_byte ds ≡ true
name_digits [] h = refl
name_digits (c ∷ cs) h = let p = digits_parts c cs h in and_from _ _ (name_digit c p.0 p.1) (name_digits cs p.2)

name_decimal : (n : ℕ) → n < 2 ^ 64 → list_all is_name_byte (decimal n) ≡ true
name_decimal n small = name_digits (decimal n) (digits_decimal own n small)

-- `t`, 10 digits at most, `n`, and 20 digits at most
short : (t i : ℕ) → t < 2 ^ 32 → i < 2 ^ 64 → length ((decimal t ++ 110 ∷ []) ++ decimal i) ≤ 31
short t i few small =
    let a = length-decimal-le 10 t (omega arith) (omega arith) (omega arith) in
    let b = length-decimal-le 20 i (omega arith) (omega arith) small in
    omega (arith, length-append (decimal t ++ 110 ∷ []) (decimal i), length-append (decimal t) (110 ∷ []), a, b)

pub is_name_at : (t i : ℕ) → t < 2 ^ 32 → i < 2 ^ 64 → is_name (name_at t i) ≡ true
unfolding is_name
is_name_at t i few small =
    let front = list_all_both is_name_byte (decimal t) (110 ∷ []) (name_decimal t (omega arith)) refl in
    let all = list_all_both is_name_byte (decimal t ++ 110 ∷ []) (decimal i) front (name_decimal i small) in
    and_from _ _ (and_from _ _ all (le-leb _ _ (short t i few small))) refl

-- what is written of a name
pub name_text : (t i : ℕ) → 116 ∷ (decimal t ++ (110 ∷ decimal i)) ≡ name_at t i
name_text t i = ap (λ (l : List ℕ). 116 ∷ l) (sym (append_assoc (decimal t) (110 ∷ []) (decimal i)))

-- two texts that begin with digits and go on with `n` begin with the same digits
same_digits : (ds es xs ys : List ℕ) → all_ascii_digits ds ≡ true → all_ascii_digits es ≡ true → ds ++ 110 ∷ xs ≡ es ++ 110 ∷ ys → ds ≡ es
same_digits [] [] xs ys p q h = refl
same_digits [] (e ∷ es) xs ys p q h = let d = digits_parts e es q in let high : e ≤ 57 = d.1 in let same : 110 ≡ e = cc in absurd (omega arith)
same_digits (d ∷ ds) [] xs ys p q h = let e = digits_parts d ds p in let high : d ≤ 57 = e.1 in let same : d ≡ 110 = cc in absurd (omega arith)
same_digits (d ∷ ds) (e ∷ es) xs ys p q h =
    let head : d ≡ e = cc in
    let tail : ds ++ 110 ∷ xs ≡ es ++ 110 ∷ ys = cc in
    let rest : ds ≡ es = same_digits ds es xs ys (digits_parts d ds p).2 (digits_parts e es q).2 tail in
    cc

same_thread : (t u i k : ℕ) → t < 2 ^ 32 → u < 2 ^ 32 → name_at t i ≡ name_at u k → t ≡ u
same_thread t u i k few small h =
    let rest : (decimal t ++ 110 ∷ []) ++ decimal i ≡ (decimal u ++ 110 ∷ []) ++ decimal k = cc in
    let parts : decimal t ++ 110 ∷ decimal i ≡ decimal u ++ 110 ∷ decimal k = sym (append_assoc (decimal t) (110 ∷ []) (decimal i)) ∙ rest ∙ append_assoc (decimal u) (110 ∷ []) (decimal k) in
    let wide : t < 2 ^ 64 = omega arith in
    let wide_too : u < 2 ^ 64 = omega arith in
    decimal_injective t u wide wide_too (same_digits (decimal t) (decimal u) (decimal i) (decimal k) (digits_decimal own t wide) (digits_decimal own u wide_too) parts)

pub names_differ : (t u i k : ℕ) → t < 2 ^ 32 → u < 2 ^ 32 → t ≢ u → is_word (name_at t i) (name_at u k) ≡ false
names_differ t u i k few small other =
    ⊎_elim (λ h. absurd (other (same_thread t u i k few small (word_is (name_at t i) (name_at u k) h)))) (λ h. h) (cases_Bool (is_word (name_at t i) (name_at u k)))

-- what is read of a list of a thread's names
pub read_name : (names : List Name) (t i : ℕ) (name : Name) → length names ≡ 50 → EachIndex names (λ k. option_map name_view (slice_get names k) ≡ Some (name_at t k)) → i < 50 → name ≡ get_or names i name → name_view name ≡ name_at t i
read_name names t i name count each early is =
    let here = slice_get_read names 50 i name (sym count) early is in
    let there = rw here at (each i (omega arith)) in
    cc
