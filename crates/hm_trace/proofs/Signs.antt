-- The first sign of a word, as a search finds it.
use Rattle.std.proofs.Common.{◌≡◌, ℕ, ◌+◌, ◌≤◌, Bool, true, false, cond, ltb, List, [], ◌∷◌, length, Some, None, refl, sym, ap, arith}
use Rattle.std.specs.Prelude.{position}
use Rattle.std.specs.List.{position_or_len}
use Rattle.std.specs.Option.{unwrap_or}
use Rattle.std.proofs.lemmas.Bool.Decides.{nat_tests}
use Rattle.std.proofs.lemmas.List.Recursion.{is_position_or_len}
use Rattle.hm_trace.specs.Lines.{is_sign, sign_position}

place_is : (word : List ℕ) → sign_position word ≡ position_or_len is_sign word
place_is word = is_position_or_len sign_position is_sign refl (λ c cs. ap (cond (is_sign c) 0) (omega arith)) word

place_within : (word : List ℕ) → sign_position word ≤ length word
place_within [] = omega arith
place_within (c ∷ cs) = by (is_sign c) (place_within cs)
  where
    by : (t : Bool) → sign_position cs ≤ length cs → cond t 0 (sign_position cs + 1) ≤ length (c ∷ cs)
    by true h = omega arith
    by false h = omega arith

-- where a search finds it, or the length
pub found_sign : (word : List ℕ) → unwrap_or (position is_sign word) (length word) ≡ sign_position word
found_sign word = by (ltb (position_or_len is_sign word) (length word)) refl
  where
    by : (t : Bool) → ltb (position_or_len is_sign word) (length word) ≡ t
        → unwrap_or (cond t (Some (position_or_len is_sign word)) None) (length word) ≡ sign_position word
    by true e = sym (place_is word)
    by false e = grind (arith, nat_tests, place_is word, place_within word)
