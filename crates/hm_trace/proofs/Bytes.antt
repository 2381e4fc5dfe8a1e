-- A byte that was read is what its word spells, and what is spelled is read.
use Rattle.std.proofs.Common.{◌≡◌, ℕ, ◌+◌, ◌*◌, ◌/◌, ◌%◌, ◌<◌, false, List, [], ◌∷◌, Option, Some, None, Result, Ok, refl, sym, ◌∙◌, ap, arith}
use Rattle.std.specs.Fmt.{digit_glyph}
use Rattle.hm_trace.specs.declared.fault.FaultKind.{FaultKind}
use Rattle.hm_trace.specs.declared.fault.FaultKind.TheVariants.{BadNumber}
use Rattle.hm_trace.specs.Gives.{or_fault, ◌>>=◌}
use Rattle.hm_trace.specs.ReadNumbers.{hex_digit}
use Rattle.hm_trace.specs.ReadWords.{byte_at}
use Rattle.hm_base.specs.Bytes.{byte_word}
use Rattle.hm_trace.proofs.Hex.{digit_is, glyph_read}

abbrev ok : ℕ → Result ℕ FaultKind
ok n = Ok n

byte_is_at : (h l b : ℕ) (p q : Option ℕ) → hex_digit h ≡ p → hex_digit l ≡ q
    → (or_fault BadNumber p >>= λ high. or_fault BadNumber q >>= λ low. ok (16 * high + low)) ≡ Ok b
    → (h ∷ l ∷ [] ≡ byte_word b) × (b < 256)
byte_is_at h l b None q e f is = absurd cc
byte_is_at h l b (Some x) None e f is = absurd cc
byte_is_at h l b (Some x) (Some y) e f is =
    let i = digit_is h x e in
    let j = digit_is l y f in
    let small_x : x < 16 = i.small in
    let small_y : y < 16 = j.small in
    let same : 16 * x + y ≡ b = cc in
    let high : b / 16 ≡ x = omega arith in
    let low : b % 16 ≡ y = omega arith in
    (sym (rw (high, low) (ap (λ g. g ∷ digit_glyph false y ∷ []) i.glyph ∙ ap (λ g. h ∷ g ∷ []) j.glyph)), omega arith)

pub byte_is : (word : List ℕ) (b : ℕ) → byte_at word ≡ Ok b → (word ≡ byte_word b) × (b < 256)
unfolding byte_at
byte_is [] b e = absurd cc
byte_is (h ∷ []) b e = absurd cc
byte_is (h ∷ l ∷ []) b e = byte_is_at h l b (hex_digit h) (hex_digit l) refl refl e
byte_is (h ∷ l ∷ c ∷ cs) b e = absurd cc

pub byte_again : (b : ℕ) → b < 256 → byte_at (byte_word b) ≡ Ok b
unfolding byte_at
byte_again b lt =
    let high : b / 16 < 16 = omega arith in
    let low : b % 16 < 16 = omega arith in
    let whole : 16 * (b / 16) + b % 16 ≡ b = omega arith in
    ap
    (λ o.
    or_fault BadNumber o >>= λ x. or_fault BadNumber (hex_digit (digit_glyph false (b % 16)))
    >>= λ y. ok (16 * x + y))
    (glyph_read (b / 16) high)
    ∙ ap (λ o. or_fault BadNumber o >>= λ y. ok (16 * (b / 16) + y)) (glyph_read (b % 16) low)
    ∙ ap (λ n. Ok n) whole
