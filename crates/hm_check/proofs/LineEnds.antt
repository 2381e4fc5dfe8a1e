-- Where the first line of a text ends.
use Rattle.std.proofs.Common.{◌≡◌, ℕ, ◌+◌, ◌-◌, ◌≤◌, Bool, eqb, List, [], ◌∷◌, ◌++◌, length, take, drop, get_or, Some, None, ◌∙◌, ap, subst, arith}
use Rattle.std.specs.Prelude.{position}
use Rattle.std.specs.List.{position_or_len}
use Rattle.std.proofs.lemmas.Bool.{eqb-true}
use Rattle.std.proofs.lemmas.Grind.{common_steps}
use Rattle.std.proofs.lemmas.List.{take_all, take_more, length-drop}
use Rattle.std.proofs.lemmas.List.Quantifiers.{position-Some}
use Rattle.std.proofs.lemmas.List.Splits.{slice_split_none, slice_split_first}
use Rattle.std.proofs.lemmas.List.Sums.{position_or_len_is, fails_before_first}
use Rattle.hm_check.specs.Verdicts.{lines_in}

abbrev feeds : ℕ → Bool
feeds = λ b. eqb b 10

-- it ends at the first line feed
cut_at : (bytes : List ℕ) (end : ℕ) → position (λ b. eqb b 10) bytes ≡ Some end
    → lines_in bytes ≡ take end bytes ∷ lines_in (drop (end + 1) bytes)
cut_at bytes end e =
    let found = position-Some feeds bytes end 0 e in
    let same : position_or_len feeds bytes ≡ end =
    position_or_len_is feeds bytes end 0 (omega (arith, found.0)) found.2 (λ l. found.1) in
    subst (λ n. lines_in bytes ≡ take n bytes ∷ lines_in (drop (n + 1) bytes)) same
    (slice_split_first feeds bytes 0 (omega (arith, same, found.0)))

feed_there : (bytes : List ℕ) (end : ℕ) → position (λ b. eqb b 10) bytes ≡ Some end
    → take (end + 1) bytes ≡ take end bytes ++ 10 ∷ []
feed_there bytes end e =
    let found = position-Some feeds bytes end 0 e in
    let is : get_or bytes end 0 ≡ 10 = omega (arith, eqb-true (get_or bytes end 0) 10 found.1) in
    take_more bytes end 0 (omega (arith, found.0)) ∙ ap (λ (b : ℕ). take end bytes ++ b ∷ []) is

pub cut_with_feed : (bytes : List ℕ) (end : ℕ) → position (λ b. eqb b 10) bytes ≡ Some end
    → (piece : List ℕ) × (take (end + 1) bytes ≡ piece ++ 10 ∷ [])
    × (lines_in bytes ≡ piece ∷ lines_in (take (length bytes - (end + 1)) (drop (end + 1) bytes)))
cut_with_feed bytes end e =
    let rest : List ℕ = drop (end + 1) bytes in (
      take end bytes,
      feed_there bytes end e,
      rw (take_all (length bytes - (end + 1)) rest (omega (arith, length-drop (end + 1) bytes))) (cut_at bytes end e),
    )

-- without a line feed the text is the one piece
pub uncut : (bytes : List ℕ) → position (λ b. eqb b 10) bytes ≡ None → lines_in bytes ≡ bytes ∷ []
uncut bytes e =
    let far : length bytes ≤ position_or_len feeds bytes = grind (arith, common_steps) in
    slice_split_none feeds bytes (λ k d l. fails_before_first feeds bytes k d (omega arith))
