-- A text determines its lines, and a line its words.
use Rattle.std.proofs.Common.{◌≡◌, ℕ, ◌<◌, ◌≤◌, true, false, eqb, List, [], ◌∷◌, ◌++◌, map, refl, sym, ◌∙◌, ap, append_assoc, eq-eqb, arith}
use Rattle.std.specs.List.{AllByRecursion as Each, slice_split, join_with_byte}
use Rattle.std.proofs.lemmas.Bool.Decides.{nat_tests}
use Rattle.std.proofs.lemmas.List.{append_cancel_right}
use Rattle.hm_journal.specs.Words.{lines_text}
use Rattle.hm_journal.proofs.Each.{each_append, each_by}

-- no byte of the list is c
abbrev pub Lacks : ℕ → List ℕ → Type 0
Lacks c bytes = Each (λ b. eqb b c ≡ false) bytes

-- each byte is at least k
abbrev pub High : ℕ → List ℕ → Type 0
High k bytes = Each (λ b. k ≤ b) bytes

-- words whose bytes stand above the space's, at least one
abbrev pub IsLine : List (List ℕ) → Type 0
IsLine [] = ⊥
IsLine (word ∷ words) = Each (High 33) (word ∷ words)

not_byte : (c k b : ℕ) → c < k → k ≤ b → eqb b c ≡ false
not_byte c k b lt h = grind (arith, nat_tests)

pub lacks : (c k : ℕ) (bytes : List ℕ) → c < k → High k bytes → Lacks c bytes
lacks c k bytes lt h = each_by (λ b. k ≤ b) (λ b. eqb b c ≡ false) bytes (λ b g. not_byte c k b lt g) h

split_at : (c : ℕ) (word rest : List ℕ) → Lacks c word
    → slice_split (λ b. eqb b c) (word ++ c ∷ rest) ≡ word ∷ slice_split (λ b. eqb b c) rest
split_at c [] rest h = let is : eqb c c ≡ true = eq-eqb c c refl in rw is refl
split_at c (b ∷ word) rest h = rw (h.0, split_at c word rest h.1) refl

split_last : (c : ℕ) (word : List ℕ) → Lacks c word → slice_split (λ b. eqb b c) word ≡ word ∷ []
split_last c [] h = refl
split_last c (b ∷ word) h = rw (h.0, split_last c word h.1) refl

-- words that are joined by a byte that none of them has are got back
pub split_joined : (c : ℕ) (word : List ℕ) (words : List (List ℕ)) → Each (Lacks c) (word ∷ words)
    → slice_split (λ b. eqb b c) (join_with_byte c (word ∷ words)) ≡ word ∷ words
split_joined c word [] h = split_last c word h.0
split_joined c word (next ∷ words) h =
    split_at c word (join_with_byte c (next ∷ words)) h.0
    ∙ ap (λ (l : List (List ℕ)). word ∷ l) (split_joined c next words h.1)

joined_lacks : (c d : ℕ) (word : List ℕ) (words : List (List ℕ)) → eqb d c ≡ false → Each (Lacks c) (word ∷ words)
    → Lacks c (join_with_byte d (word ∷ words))
joined_lacks c d word [] n h = h.0
joined_lacks c d word (next ∷ words) n h =
    each_append (λ b. eqb b c ≡ false) word (d ∷ join_with_byte d (next ∷ words)) h.0
    (n, joined_lacks c d next words n h.1)

pub words_lack : (c : ℕ) (words : List (List ℕ)) → c < 33 → Each (High 33) words → Each (Lacks c) words
words_lack c words lt h = each_by (High 33) (Lacks c) words (λ w g. lacks c 33 w lt g) h

-- the lines of a text, each as its words
abbrev words_of : List ℕ → List (List (List ℕ))
words_of text = map (λ (l : List ℕ). slice_split (λ b. eqb b 32) l) (slice_split (λ b. eqb b 10) text)

-- the first line of a text, and what follows it
pub first_of_lines : (word : List ℕ) (words : List (List ℕ)) (rest : List ℕ) → Each (High 33) (word ∷ words)
    → slice_split (λ b. eqb b 10) ((join_with_byte 32 (word ∷ words) ++ 10 ∷ []) ++ rest)
    ≡ join_with_byte 32 (word ∷ words) ∷ slice_split (λ b. eqb b 10) rest
first_of_lines word words rest h =
    let line : List ℕ = join_with_byte 32 (word ∷ words) in
    ap (slice_split (λ b. eqb b 10)) (append_assoc line (10 ∷ []) rest)
    ∙ split_at 10 line rest (joined_lacks 10 32 word words refl (words_lack 10 (word ∷ words) (omega arith) h))

words_back : (lines : List (List (List ℕ))) → Each IsLine lines → words_of (lines_text lines) ≡ lines ++ ([] ∷ []) ∷ []
words_back [] h = refl
words_back ([] ∷ lines) h = absurd (h.0)
words_back ((word ∷ words) ∷ lines) h =
    let first = first_of_lines word words (lines_text lines) h.0 in
    ap (map (λ (l : List ℕ). slice_split (λ b. eqb b 32) l)) first
    ∙ (λ i. split_joined 32 word words (words_lack 32 (word ∷ words) (omega arith) h.0) i ∷ words_back lines h.1 i)

pub same_lines : (ls ms : List (List (List ℕ))) → Each IsLine ls → Each IsLine ms → lines_text ls ≡ lines_text ms
    → ls ≡ ms
same_lines ls ms h g e =
    append_cancel_right ls ms (([] ∷ []) ∷ []) (sym (words_back ls h) ∙ ap words_of e ∙ words_back ms g)
