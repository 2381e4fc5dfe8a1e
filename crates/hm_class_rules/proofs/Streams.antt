-- The words of entries are the next ones of a stream.
use Rattle.std.proofs.Common.{◌≡◌, ℕ, zero, suc, ◌+◌, ◌%◌, ◌^◌, ◌<◌, ◌≤◌, Bool, true, false, cond, List, [], ◌∷◌, ◌++◌, length, take, sym, ◌∙◌, ap, subst, refl, arith, length-append}
use Rattle.std.specs.Prelude.{◌&&◌, ◌==◌, is_some}
use Rattle.std.specs.Bool.{⊤}
use Rattle.std.proofs.lemmas.List.{length-take}
use Rattle.rand_chacha.specs.Block.{block_word}
use Rattle.hm_choice.specs.Stream.{Words, next_word, after_word}
use Rattle.hm_model.specs.Entries.{AreDraws}
use Rattle.hm_model.specs.declared.entry.Entry.{Entry}
use Rattle.hm_model.specs.declared.entry.Choices.{Choices}
use Rattle.hm_model.specs.declared.entry.Draws.{Draws}
use Rattle.hm_sizes.specs.Shapes.{has_bytes}
use Rattle.hm_class_rules.specs.Rules.{Terms}
use Rattle.hm_class_rules.specs.Draws.{words_from, after_words, words_of, all_words, Event, Picked, Returned, Undrawn, word_count}

-- ---- a word is below 2 ^ 32
pub next_below : (stream : Words) → next_word stream < 2 ^ 32
unfolding block_word
next_below stream = below _
  where
    below : (x : ℕ) → x % 2 ^ 32 < 2 ^ 32
    below x = omega arith

pub record AreWords (d : Draws) : Type 0 where
  pub first : d.w0 < 2 ^ 32
  pub second : d.w1 < 2 ^ 32
  pub third : d.w2 < 2 ^ 32

pub same_head : (x y : ℕ) (xs ys : List ℕ) → x ∷ xs ≡ y ∷ ys → x ≡ y
same_head x y xs ys e = cc

pub same_tail : (x y : ℕ) (xs ys : List ℕ) → x ∷ xs ≡ y ∷ ys → xs ≡ ys
same_tail x y xs ys e = cc

below_by : (x : ℕ) (stream : Words) → x ≡ next_word stream → x < 2 ^ 32
below_by x stream e = subst (λ (y : ℕ). y < 2 ^ 32) (sym e) (next_below stream)

three_below : (count a b c : ℕ) (stream : Words) → (count < 1 → a ≡ 0) → (count < 2 → b ≡ 0) → (count < 3 → c ≡ 0) → take count (a ∷ b ∷ c ∷ []) ≡ words_from stream count → (a < 2 ^ 32) × (b < 2 ^ 32) × (c < 2 ^ 32)
three_below zero a b c stream first second third e = (omega (arith, first (omega arith)), omega (arith, second (omega arith)), omega (arith, third (omega arith)))
three_below (suc zero) a b c stream first second third e = (below_by a stream (same_head _ _ _ _ e), omega (arith, second (omega arith)), omega (arith, third (omega arith)))
three_below (suc (suc zero)) a b c stream first second third e =
    (below_by a stream (same_head _ _ _ _ e), below_by b (after_word stream) (same_head _ _ _ _ (same_tail _ _ _ _ e)), omega (arith, third (omega arith)))
three_below (suc (suc (suc n))) a b c stream first second third e = (
  below_by a stream (same_head _ _ _ _ e),
  below_by b (after_word stream) (same_head _ _ _ _ (same_tail _ _ _ _ e)),
  below_by c (after_word (after_word stream)) (same_head _ _ _ _ (same_tail _ _ _ _ (same_tail _ _ _ _ e))),
)

pub words_below : (d : Draws) (stream : Words) → AreDraws d → words_of d ≡ words_from stream d.used → AreWords d
words_below d stream zeros e =
    let three = three_below d.used d.w0 d.w1 d.w2 stream zeros.first zeros.second zeros.third e in
    record { first = three.0; second = three.1; third = three.2 }

-- ---- one entry after another
-- each entry's words begin where those of the entry before ended
abbrev pub Follow : Words → List Entry → Type 0
Follow stream [] = ⊤
Follow stream (e ∷ es) = (words_of e.draws ≡ words_from stream e.draws.used) × Follow (after_words stream e.draws.used) es

-- no entry draws more than three words
abbrev pub AreShort : List Entry → Type 0
AreShort [] = ⊤
AreShort (e ∷ es) = (e.draws.used ≤ 3) × AreShort es

from_both : (stream : Words) (m n l : ℕ) → l ≡ m + n → words_from stream l ≡ words_from stream m ++ words_from (after_words stream m) n
from_both stream zero n l e = ap (words_from stream) (omega arith)
from_both stream (suc m) n zero e = absurd (omega arith)
from_both stream (suc m) n (suc l) e = ap (λ (xs : List ℕ). next_word stream ∷ xs) (from_both (after_word stream) m n l (omega arith))

length_from : (stream : Words) (n : ℕ) → length (words_from stream n) ≡ n
length_from stream zero = refl
length_from stream (suc n) = omega (arith, length_from (after_word stream) n)

length_words : (d : Draws) → d.used ≤ 3 → length (words_of d) ≡ d.used
length_words d few = omega (arith, length-take d.used (d.w0 ∷ d.w1 ∷ d.w2 ∷ []))

-- equal lists whose front parts are equally long
parts : (xs us ys vs : List ℕ) → length xs ≡ length us → xs ++ ys ≡ us ++ vs → (xs ≡ us) × (ys ≡ vs)
parts [] [] ys vs n e = (refl, e)
parts [] (u ∷ us) ys vs n e = absurd (omega arith)
parts (x ∷ xs) [] ys vs n e = absurd (omega arith)
parts (x ∷ xs) (u ∷ us) ys vs n e =
    let head : x ≡ u = cc in
    let tail : xs ++ ys ≡ us ++ vs = cc in
    let rest : (xs ≡ us) × (ys ≡ vs) = parts xs us ys vs (omega arith) tail in
    let first : xs ≡ us = rest.0 in
    (cc, rest.1)

pub follow : (stream : Words) (es : List Entry) → AreShort es → all_words es ≡ words_from stream (length (all_words es)) → Follow stream es
follow stream [] short e = tt
follow stream (x ∷ es) short e =
    let used : ℕ = x.draws.used in
    let rest : ℕ = length (all_words es) in
    let both : (words_of x.draws ≡ words_from stream used) × (all_words es ≡ words_from (after_words stream used) rest) =
    parts (words_of x.draws) (words_from stream used) (all_words es) (words_from (after_words stream used) rest)
    (length_words x.draws short.0 ∙ sym (length_from stream used))
    (e ∙ from_both stream used rest (length (words_of x.draws ++ all_words es)) (omega (arith, length-append (words_of x.draws) (all_words es), length_words x.draws short.0))) in
    (both.0, follow (after_words stream used) es short.1 both.1)

pub consecutive : (stream : Words) (es : List Entry) → Follow stream es → all_words es ≡ words_from stream (length (all_words es))
consecutive stream [] h = refl
consecutive stream (x ∷ es) h =
    let used : ℕ = x.draws.used in
    let rest : ℕ = length (all_words es) in
    ap (λ (xs : List ℕ). xs ++ all_words es) h.0
    ∙ ap (λ (xs : List ℕ). words_from stream used ++ xs) (consecutive (after_words stream used) es h.1)
    ∙ sym (from_both stream used rest (length (words_of x.draws ++ all_words es)) (omega (arith, length-append (words_of x.draws) (all_words es), ap (λ (xs : List ℕ). length xs) h.0, length_from stream used)))

-- ---- how many words an entry draws
two_most : (b : Bool) → cond b 2 0 ≤ 2
two_most true = omega arith
two_most false = omega arith

pub one_most : (b : Bool) → cond b 1 0 ≤ 1
one_most true = omega arith
one_most false = omega arith

none_most : (b : Bool) → cond b 0 1 ≤ 1
none_most true = omega arith
none_most false = omega arith

pub few_words : (t : Terms) (c : Choices) (ev : Event) → word_count t c ev ≤ 3
few_words t c (Picked a) = omega (arith, two_most (has_bytes t.shape && is_some c.opened), one_most t.config.random_slots)
few_words t c (Returned a) = omega (arith, none_most (t.shape.array == 0), one_most (is_some c.retired))
few_words t c Undrawn = omega arith
