-- The bits of a map as its words change.
use Rattle.std.proofs.Common.{◌≡◌, ◌≢◌, ℕ, zero, suc, ◌+◌, ◌-◌, ◌*◌, ◌/◌, ◌%◌, ◌^◌, ◌<◌, ◌≤◌, max, Bool, true, false, List, [], ◌∷◌, length, get_or, inl, inr, refl, sym, ap, ◌∙◌, arith}
use Rattle.std.proofs.Math.ListN.{set}
use Rattle.std.proofs.lemmas.Bool.{cases_eq, cases_lt, eq-eqb, ne_eqb, cond-true, cond-false}
use Rattle.std.proofs.lemmas.List.{get_or-set_same, get_or-set_other}
use Rattle.std.proofs.lemmas.Nat.{pow_pos, shl_whole}
use Rattle.std.proofs.lemmas.Nat.Bits.{bit_at_or, bit_at-zero, bit_at-lt, bit_at_set_same, bit_at_set_other, bit_at_clear_same, bit_at_clear_other, and_pow}
use Rattle.std.specs.Prelude.{◌==◌, ◌||◌, not, nat_eq, bit_and, bit_or, if◌then◌else◌}
use Rattle.std.specs.Int.{bit_at, w64}
use Rattle.hm_slab_meta.specs.declared.bit_map.BitMap.{BitMap}
use Rattle.hm_slab_meta.specs.Maps.{has, IsClear, AreAllIn, IsFirstOut}
use Rattle.hm_slab_meta.specs.Words.{AreSet, IsFirstClear}

abbrev bit_of : List ℕ → ℕ → ℕ
bit_of words i = bit_at (get_or words (i / 64) 0) (i % 64)

abbrev with_word : List ℕ → ℕ → ℕ → BitMap
with_word words bit word = record { words = set words (bit / 64) word }

pub has_is : (map : BitMap) (i : ℕ) → has map i ≡ (bit_of map.words i == 1)
unfolding has
has_is map i = refl

-- bit i has the value b where the word changed so
at_bit : (words : List ℕ) (bit word b : ℕ) → length words ≡ 4 → bit < 256 → bit_at word (bit % 64) ≡ b → bit_of (set words (bit / 64) word) bit ≡ b
at_bit words bit word b long below is =
    ap (λ n. bit_at n (bit % 64)) (get_or-set_same words (bit / 64) word 0 (omega arith)) ∙ is

away : (words : List ℕ) (bit i word : ℕ) → length words ≡ 4 → bit < 256 → i ≢ bit
    → ((k : ℕ) → k < 64 → k ≢ bit % 64 → bit_at word k ≡ bit_at (get_or words (bit / 64) 0) k)
    → bit_of (set words (bit / 64) word) i ≡ bit_of words i
away words bit i word long below differs same =
    elim (cases_eq (i / 64) (bit / 64)) as (λ _. bit_of (set words (bit / 64) word) i ≡ bit_of words i) [
      | inl e ↦
          ap (λ k. bit_at (get_or (set words (bit / 64) word) k 0) (i % 64)) e
          ∙ ap (λ n. bit_at n (i % 64)) (get_or-set_same words (bit / 64) word 0 (omega arith))
          ∙ same (i % 64) (omega arith) (λ f. differs (omega (arith, e, f)))
          ∙ ap (λ k. bit_at (get_or words k 0) (i % 64)) (sym e)
      | inr n ↦ ap (λ w. bit_at w (i % 64)) (get_or-set_other words (bit / 64) (i / 64) word 0 n)
    ]

-- what a change of one bit leaves
changed : (map : BitMap) (bit word b : ℕ) (t : Bool) → length map.words ≡ 4 → bit < 256 → (b == 1) ≡ t → bit_at word (bit % 64) ≡ b
    → ((k : ℕ) → k < 64 → k ≢ bit % 64 → bit_at word k ≡ bit_at (get_or map.words (bit / 64) 0) k)
    → (i : ℕ) → has (with_word map.words bit word) i ≡ (if i == bit then t else has map i)
changed map bit word b t long below test at others i =
    has_is (with_word map.words bit word) i
    ∙ elim (cases_eq i bit) as (λ _. (bit_of (set map.words (bit / 64) word) i == 1) ≡ (if i == bit then t else has map i)) [
      | inl e ↦
          ap (λ k. bit_of (set map.words (bit / 64) word) k == 1) e
          ∙ ap (λ n. n == 1) (at_bit map.words bit word b long below at) ∙ test
          ∙ sym (cond-true (i == bit) t (has map i) (eq-eqb i bit e))
      | inr n ↦
          ap (λ k. k == 1) (away map.words bit i word long below n others)
          ∙ sym (has_is map i) ∙ sym (cond-false (i == bit) t (has map i) (ne_eqb i bit n))
    ]

pub has-insert : (map : BitMap) (bit : ℕ) → length map.words ≡ 4 → bit < 256 → (i : ℕ)
    → has (with_word map.words bit (bit_or (get_or map.words (bit / 64) 0) (1 * 2 ^ (bit % 64) % 2 ^ 64))) i
    ≡ (if i == bit then true else has map i)
has-insert map bit long below =
    changed map bit _ 1 true long below refl (bit_at_set_same w64 (get_or map.words (bit / 64) 0) (bit % 64) (omega arith))
    (λ k small differs. bit_at_set_other w64 (get_or map.words (bit / 64) 0) (bit % 64) (omega arith) k differs)

pub has-remove : (map : BitMap) (bit : ℕ) → length map.words ≡ 4 → bit < 256 → (i : ℕ)
    → has (with_word map.words bit (bit_and (get_or map.words (bit / 64) 0) (2 ^ 64 - 1 - 1 * 2 ^ (bit % 64) % 2 ^ 64))) i
    ≡ (if i == bit then false else has map i)
has-remove map bit long below =
    changed map bit _ 0 false long below refl (bit_at_clear_same w64 (get_or map.words (bit / 64) 0) (bit % 64) (omega arith))
    (λ k small differs. bit_at_clear_other w64 (get_or map.words (bit / 64) 0) (bit % 64) (omega arith) k small differs)

-- a test of one bit
tested : (b power : ℕ) → b < 2 → 0 < power → not (nat_eq (b * power) 0) ≡ (b == 1)
tested zero power small some = let e : 0 * power ≡ 0 = omega arith in ap (λ n. not (nat_eq n 0)) e
tested (suc zero) power small some =
    let e : 1 * power ≡ power = omega arith in
    ap (λ n. not (nat_eq n 0)) e ∙ ap not (ne_eqb power 0 (λ none. omega (arith, some, none)))
tested (suc (suc b)) power small some = absurd (omega arith)

pub has-contains : (map : BitMap) (bit : ℕ) → bit < 256 → not (nat_eq (bit_and (get_or map.words (bit / 64) 0) (1 * 2 ^ (bit % 64) % 2 ^ 64)) 0) ≡ has map bit
has-contains map bit below =
    ap (λ n. not (nat_eq (bit_and (get_or map.words (bit / 64) 0) n) 0)) (shl_whole 1 1 (bit % 64) 64 (omega arith) (omega arith) ∙ omega arith)
    ∙ ap (λ n. not (nat_eq n 0)) (and_pow (get_or map.words (bit / 64) 0) (bit % 64))
    ∙ tested (bit_of map.words bit) (2 ^ (bit % 64)) (bit_at-lt (get_or map.words (bit / 64) 0) (bit % 64)) (pow_pos (bit % 64))
    ∙ sym (has_is map bit)

-- ---- all words
abbrev zeros : List ℕ
zeros = 0 ∷ 0 ∷ 0 ∷ 0 ∷ []

zeros_at : (k : ℕ) → get_or zeros k 0 ≡ 0
zeros_at zero = refl
zeros_at (suc zero) = refl
zeros_at (suc (suc zero)) = refl
zeros_at (suc (suc (suc zero))) = refl
zeros_at (suc (suc (suc (suc k)))) = refl

pub empty_is_clear : IsClear (record { words = zeros })
empty_is_clear i below =
    has_is (record { words = zeros }) i
    ∙ ap (λ n. bit_at n (i % 64) == 1) (zeros_at (i / 64)) ∙ ap (λ n. n == 1) (bit_at-zero (i % 64))

abbrev both : List ℕ → List ℕ → List ℕ
both a b =
    bit_or (get_or a 0 0) (get_or b 0 0) ∷ bit_or (get_or a 1 0) (get_or b 1 0) ∷ bit_or (get_or a 2 0) (get_or b 2 0)
    ∷ bit_or (get_or a 3 0) (get_or b 3 0) ∷ []

both_at : (a b : List ℕ) (k : ℕ) → k < 4 → get_or (both a b) k 0 ≡ bit_or (get_or a k 0) (get_or b k 0)
both_at a b zero below = refl
both_at a b (suc zero) below = refl
both_at a b (suc (suc zero)) below = refl
both_at a b (suc (suc (suc zero))) below = refl
both_at a b (suc (suc (suc (suc k)))) below = absurd (omega arith)

either : (a b : ℕ) → a < 2 → b < 2 → (max a b == 1) ≡ ((a == 1) || (b == 1))
either zero zero p q = refl
either zero (suc zero) p q = refl
either (suc zero) zero p q = refl
either (suc zero) (suc zero) p q = refl
either (suc (suc a)) b p q = absurd (omega arith)
either zero (suc (suc b)) p q = absurd (omega arith)
either (suc zero) (suc (suc b)) p q = absurd (omega arith)

pub has-union : (a b : BitMap) (i : ℕ) → i < 256 → has (record { words = both a.words b.words }) i ≡ (has a i || has b i)
has-union a b i below =
    has_is (record { words = both a.words b.words }) i
    ∙ ap (λ n. bit_at n (i % 64) == 1) (both_at a.words b.words (i / 64) (omega arith))
    ∙ ap (λ n. n == 1) (bit_at_or (get_or a.words (i / 64) 0) (get_or b.words (i / 64) 0) (i % 64))
    ∙ either (bit_of a.words i) (bit_of b.words i) (bit_at-lt (get_or a.words (i / 64) 0) (i % 64)) (bit_at-lt (get_or b.words (i / 64) 0) (i % 64))
    ∙ sym (ap (λ t. t || has b i) (has_is a i) ∙ ap (λ t. (bit_of a.words i == 1) || t) (has_is b i))

-- ---- one word of a map
has_in : (map : BitMap) (index bit : ℕ) → bit < 64 → has map (64 * index + bit) ≡ (bit_at (get_or map.words index 0) bit == 1)
has_in map index bit below =
    let at : (64 * index + bit) / 64 ≡ index = omega arith in
    let rest : (64 * index + bit) % 64 ≡ bit = omega arith in
    has_is map (64 * index + bit)
    ∙ ap (λ k. bit_at (get_or map.words k 0) ((64 * index + bit) % 64) == 1) at
    ∙ ap (λ k. bit_at (get_or map.words index 0) k == 1) rest

set_in : (map : BitMap) (index low to i : ℕ) → to ≤ 64 → AreSet (get_or map.words index 0) low to → 64 * index + low ≤ i → i < 64 * index + to → has map i ≡ true
set_in map index low to i few set from below =
    let is : 64 * index + (i - 64 * index) ≡ i = omega arith in
    ap (has map) (sym is) ∙ has_in map index (i - 64 * index) (omega arith)
    ∙ ap (λ b. b == 1) (set (i - 64 * index) (omega arith) (omega arith))

pub first_out : (map : BitMap) (from index low bit : ℕ) → index < 4 → from ≤ 64 * index + low → AreAllIn map from (64 * index + low)
    → IsFirstClear (get_or map.words index 0) low bit → IsFirstOut map from (64 * index + bit)
first_out map from index low bit few le passed first =
    record {
      at_least = omega (arith, first.at_least);
      below = omega (arith, first.below);
      clear = has_in map index bit first.below ∙ ap (λ b. b == 1) first.clear;
      before = λ i at_least below. elim (cases_lt i (64 * index + low)) as (λ _. has map i ≡ true) [
        | inl lt ↦ passed i at_least lt
        | inr ge ↦ set_in map index low bit i (omega (arith, first.below)) first.before ge below
      ];
    }

pub all_in_more : (map : BitMap) (from index low : ℕ) → AreAllIn map from (64 * index + low) → AreSet (get_or map.words index 0) low 64
    → AreAllIn map from (64 * (index + 1) + 0)
all_in_more map from index low passed set i at_least below =
    elim (cases_lt i (64 * index + low)) as (λ _. has map i ≡ true) [
      | inl lt ↦ passed i at_least lt
      | inr ge ↦ set_in map index low 64 i (omega arith) set ge (omega arith)
    ]

-- no bit of a word is set
abbrev pub IsClearWord : ℕ → Type 0
IsClearWord word = (i : ℕ) → i < 64 → bit_at word i ≡ 0

pub all_clear : (map : BitMap) → ((k : ℕ) → k < 4 → IsClearWord (get_or map.words k 0)) → IsClear map
all_clear map clear i below = has_is map i ∙ ap (λ b. b == 1) (clear (i / 64) (omega arith) (i % 64) (omega arith))

off : (b : ℕ) → b < 2 → (b == 1) ≡ false → b ≡ 0
off zero small e = refl
off (suc zero) small e = cc
off (suc (suc b)) small e = absurd (omega arith)

pub clear_word : (map : BitMap) (index : ℕ) → index < 4 → IsClear map → IsClearWord (get_or map.words index 0)
clear_word map index few clear i below =
    off (bit_at (get_or map.words index 0) i) (bit_at-lt (get_or map.words index 0) i)
    (sym (has_in map index i below) ∙ clear (64 * index + i) (omega arith))
