-- No line feed stands in the text of a step, and no space in its number.
use Rattle.std.proofs.Common.{◌≡◌, ⊎_elim, ℕ, zero, suc, ◌/◌, ◌%◌, ◌≤◌, ◌==◌, nat_lt, not, Bool, true, false, cond, ◌&&◌, List, [], ◌∷◌, ◌++◌, Option, Some, None, refl, ap, ◌∙◌, codes, arith}
use Rattle.std.proofs.lemmas.Bool.{and_parts, cases_Bool, cond_both, lt-ltb}
use Rattle.std.proofs.lemmas.Bool.Decides.{nat_tests}
use Rattle.std.proofs.lemmas.List.Folds.{list_all-append}
use Rattle.std.specs.Fmt.{decimal, digits, digits_onto, digit_glyph}
use Rattle.std.specs.List.{list_all}
use Rattle.hm_base.specs.Bytes.{byte_word, run_word}
use Rattle.hm_model.specs.declared.entry.Reply.{Reply}
use Rattle.hm_model.specs.declared.entry.Reply.TheVariants as reply
use Rattle.hm_model.specs.declared.answer.Answer.{Answer}
use Rattle.hm_model.specs.declared.answer.Answer.TheVariants as answer
use Rattle.hm_report.specs.declared.results.StepResult.{StepResult}
use Rattle.hm_report.specs.Marks.{is_one_line, behind_space}
use Rattle.hm_report.specs.Text.{runs_text, reply_text, cause_text, answer_text, answered_text, result_text}

pub both : (a b : Bool) → a ≡ true → b ≡ true → (a && b) ≡ true
both a b first second = ap (λ x. x && b) first ∙ second

pub append_line : (xs ys : List ℕ) → is_one_line xs ≡ true → is_one_line ys ≡ true → is_one_line (xs ++ ys) ≡ true
append_line xs ys first second = list_all-append (λ b. not (b == 10)) xs ys ∙ both (is_one_line xs) (is_one_line ys) first second

-- ---- bytes above the space
abbrev is_high : List ℕ → Bool
is_high bytes = list_all (λ b. nat_lt 32 b) bytes

no_feed : (b : ℕ) → nat_lt 32 b ≡ true → not (b == 10) ≡ true
no_feed b h = grind (arith, nat_tests)

no_space : (b : ℕ) → nat_lt 32 b ≡ true → (b == 32) ≡ false
no_space b h = grind (arith, nat_tests)

high_line : (bytes : List ℕ) → is_high bytes ≡ true → is_one_line bytes ≡ true
high_line [] h = refl
high_line (b ∷ bytes) h =
    let parts = and_parts (nat_lt 32 b) (is_high bytes) h in
    both (not (b == 10)) (is_one_line bytes) (no_feed b parts.0) (high_line bytes parts.1)

high_behind : (bytes rest : List ℕ) → is_high bytes ≡ true → behind_space (bytes ++ rest) ≡ behind_space rest
high_behind [] rest h = refl
high_behind (b ∷ bytes) rest h =
    let parts = and_parts (nat_lt 32 b) (is_high bytes) h in
    ap (λ c. cond c (bytes ++ rest) (behind_space (bytes ++ rest))) (no_space b parts.0) ∙ high_behind bytes rest parts.1

-- ---- digits
glyph_least : (d : ℕ) → 48 ≤ digit_glyph false d
glyph_least d =
    ⊎_elim
    (λ (t : nat_lt d 10 ≡ true). rw t (omega arith))
    (λ (t : nat_lt d 10 ≡ false). rw t (omega arith))
    (cases_Bool (nat_lt d 10))

high_glyph : (d : ℕ) → nat_lt 32 (digit_glyph false d) ≡ true
high_glyph d = lt-ltb 32 (digit_glyph false d) (omega (arith, glyph_least d))

high_digits : (k n : ℕ) (later : List ℕ) → is_high later ≡ true → is_high (digits_onto k 10 false n later) ≡ true
high_digits zero n later h = h
high_digits (suc k) n later h =
    let d = digit_glyph false (n % 10) in
    let one : is_high (d ∷ later) ≡ true = both (nat_lt 32 d) (is_high later) (high_glyph (n % 10)) h in
    cond_both (n / 10 == 0) (d ∷ later) (digits_onto k 10 false (n / 10) (d ∷ later)) (λ (bytes : List ℕ). is_high bytes ≡ true)
    (λ last. one) (λ more. high_digits k (n / 10) (d ∷ later) one)

high_decimal : (n : ℕ) → is_high (decimal n) ≡ true
unfolding digits
high_decimal n = high_digits 64 n [] refl

pub decimal_line : (n : ℕ) → is_one_line (decimal n) ≡ true
decimal_line n = high_line (decimal n) (high_decimal n)

pub decimal_behind : (n : ℕ) (rest : List ℕ) → behind_space (decimal n ++ rest) ≡ behind_space rest
decimal_behind n rest = high_behind (decimal n) rest (high_decimal n)

byte_line : (byte : ℕ) → is_one_line (byte_word byte) ≡ true
byte_line byte =
    high_line (byte_word byte) (both _ _ (high_glyph (byte / 16)) (both _ true (high_glyph (byte % 16)) refl))

run_line : (run : ℕ × ℕ) → is_one_line (run_word run) ≡ true
run_line run =
    append_line (byte_word run.0 ++ codes "*") (decimal run.1)
    (append_line (byte_word run.0) (codes "*") (byte_line run.0) refl) (decimal_line run.1)

runs_line : (runs : List (ℕ × ℕ)) → is_one_line (runs_text runs) ≡ true
runs_line [] = refl
runs_line (run ∷ runs) = append_line (run_word run) (runs_text runs) (run_line run) (runs_line runs)

-- ---- texts
reply_line : (base : ℕ) (r : Reply) → is_one_line (reply_text base r) ≡ true
reply_line base (reply.Given addr usable) = decimal_line usable
reply_line base (reply.Overwritten addr at found) =
    append_line (codes "overwritten at " ++ decimal at ++ codes " found ") (byte_word found)
    (append_line (codes "overwritten at " ++ decimal at) (codes " found ") (decimal_line at) refl) (byte_line found)
reply_line base reply.Exhausted = refl
reply_line base reply.NoSpace = refl
reply_line base reply.PagesFailed = refl
reply_line base reply.Freed = refl
reply_line base reply.NoSlot = refl
reply_line base reply.Unused = refl
reply_line base reply.DoubleFree = refl
reply_line base (reply.WrongSize block stated) =
    append_line (codes "wrong size " ++ decimal block) (32 ∷ decimal stated) (decimal_line block) (decimal_line stated)
reply_line base (reply.Canary kept found) = decimal_line _
reply_line base (reply.Usable size) = decimal_line size
reply_line base (reply.Bytes runs) = runs_line runs
reply_line base reply.Filled = refl
reply_line base (reply.Trap addr) = decimal_line _
reply_line base reply.NotLive = refl

cause_line : (base : ℕ) (r : Reply) → is_one_line (cause_text base r) ≡ true
cause_line base (reply.Trap addr) = refl
cause_line base r = reply_line base r

answer_line : (base : ℕ) (a : Answer) → is_one_line (answer_text base a) ≡ true
answer_line base (answer.Reply r) = reply_line base r
answer_line base answer.Overflow = refl
answer_line base answer.BadAlignment = refl
answer_line base answer.TooLarge = refl
answer_line base answer.Outside = refl
answer_line base answer.Busy = refl
answer_line base (answer.HalfMoved addr usable cause) =
    append_line (codes "half moved " ++ decimal usable ++ codes ": ") (cause_text base cause)
    (append_line (codes "half moved " ++ decimal usable) (codes ": ") (decimal_line usable) refl) (cause_line base cause)
answer_line base (answer.Kept addr usable) = decimal_line usable
answer_line base answer.Nothing = refl

answered_line : (base : ℕ) (a : Option Answer) → is_one_line (answered_text base a) ≡ true
answered_line base None = refl
answered_line base (Some a) = answer_line base a

pub result_line : (result : StepResult) → is_one_line (result_text result) ≡ true
result_line result = answered_line result.base result.answer
