-- A word of digits is read as their value.
use Rattle.std.proofs.Common.{◌≡◌, ℕ, ◌<◌, ◌^◌, Bool, true, false, cond, ◌&&◌, ◌==◌, nat_lt, List, [], ◌∷◌, length, drop, Some, None, Result, Ok, Err, refl, sym, ◌∙◌, ap, subst, arith}
use Rattle.std.specs.Prelude.{nat_le}
use Rattle.std.specs.List.{list_all}
use Rattle.std.specs.Str.Parse.{digits_value, AllDigits, IsNumeral, ParsesUnsigned, without_leading_plus}
use Rattle.core.specs.Char.{is_ascii_digit, digit_value}
use Rattle.core.specs.Result.{OkIff, result_ok}
use Rattle.std.proofs.lemmas.Bool.{and_parts}
use Rattle.std.proofs.lemmas.Bool.Decides.{nat_tests}
use Rattle.hm_run.specs.Words.{is_numeral, number_in}

small : (c : ℕ) → is_ascii_digit c ≡ true → digit_value c < 10
small c h = grind (arith, nat_tests)

digits_are : (word : List ℕ) → list_all is_ascii_digit word ≡ true → AllDigits 10 word
digits_are [] h = tt
digits_are (c ∷ cs) h = let p = and_parts (is_ascii_digit c) (list_all is_ascii_digit cs) h in (small c p.0, digits_are cs p.1)

not_plus : (c : ℕ) → is_ascii_digit c ≡ true → (c == 43) ≡ false
not_plus c h = grind (arith, nat_tests)

no_plus : (word : List ℕ) → list_all is_ascii_digit word ≡ true → without_leading_plus word ≡ word
no_plus [] h = refl
no_plus (c ∷ cs) h = ap (λ (b : Bool). drop (cond b 1 0) (c ∷ cs)) (not_plus c (and_parts (is_ascii_digit c) (list_all is_ascii_digit cs) h).0)

some_from : (word : List ℕ) → nat_le 1 (length word) ≡ true → 0 < length word
some_from word h = grind (arith, nat_tests)

value_by : {E : Type 0} (v : ℕ) (N : Type 0) (r : Result ℕ E) → N → OkIff r (N × (v < 2 ^ 64)) v → result_ok r ≡ cond (nat_lt v (2 ^ 64)) (Some v) None
value_by v N (Ok x) n h = ap (λ (y : ℕ). Some y) h.1 ∙ sym (ap (λ (b : Bool). cond b (Some v) None) (is_below v h.0.1))
  where
    is_below : (v : ℕ) → v < 2 ^ 64 → nat_lt v (2 ^ 64) ≡ true
    is_below v h = grind (arith, nat_tests)
value_by v N (Err e) n h = sym (ap (λ (b : Bool). cond b (Some v) None) (not_below v (λ lt. h (n, lt))))
  where
    not_below : (v : ℕ) → (v < 2 ^ 64 → ⊥) → nat_lt v (2 ^ 64) ≡ false
    not_below v h = grind (arith, nat_tests)

pub parsed : {E : Type 0} (word : List ℕ) (r : Result ℕ E) → is_numeral word ≡ true → ParsesUnsigned 64 10 word r → result_ok r ≡ number_in word
parsed word r is parses =
    let outer = and_parts (nat_le 1 (length word) && nat_le (length word) 20) (list_all is_ascii_digit word) is in
    let inner = and_parts (nat_le 1 (length word)) (nat_le (length word) 20) outer.0 in
    let plain = subst (λ (ds : List ℕ). OkIff r (IsNumeral 10 ds × (digits_value 10 ds < 2 ^ 64)) (digits_value 10 ds)) (no_plus word outer.1) parses in
    value_by (digits_value 10 word) (IsNumeral 10 word) r (some_from word inner.0, digits_are word outer.1) plain
    ∙ sym (ap (λ (b : Bool). cond (b && nat_lt (digits_value 10 word) (2 ^ 64)) (Some (digits_value 10 word)) None) is)
